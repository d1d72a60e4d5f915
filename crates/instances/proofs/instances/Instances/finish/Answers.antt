use Rattle.std.proofs.Common.{ap, is_some}
use Rattle.instances.specs.declared.state.State.TheVariants.{Done}
use Rattle.instances.proofs.Moved.{moved_known, prescribed_known}
use Rattle.instances.proofs.instances.Instances.finish.Goals as goal

pub invariant_of-self : goal.invariant_of-self
invariant_of-self c =
    prescribed_known c.self.inside.tags c.self.inside.steps.items c.into_inst-inst.result c.index_mut.result.now c.finish.new.self Done c.args.self.now c.args.task c.self.view_is c.into_inst-inst.ensures (ap is_some c.requires)
    c.index_mut.ensures.value c.finish.ensures c.self.invariant

pub returns : goal.returns
returns c =
    moved_known c.self.inside.tags c.self.inside.steps.items c.into_inst-inst.result c.index_mut.result.now c.finish.new.self Done c.args.self.now c.args.task c.self.view_is c.into_inst-inst.ensures (ap is_some c.requires)
    c.index_mut.ensures.value c.finish.ensures
