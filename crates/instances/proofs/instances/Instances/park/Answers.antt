use Rattle.std.proofs.Common.{ap, is_some}
use Rattle.instances.specs.declared.state.State.TheVariants.{Ready, Waiting}
use Rattle.instances.proofs.Changes.{if_err, if_ok, moves_somewhere}
use Rattle.instances.proofs.Moved.{moved_known, prescribed_known}
use Rattle.instances.proofs.instances.Instances.park.Goals as goal

pub invariant_of-self : goal.invariant_of-self
invariant_of-self c =
    let parked = c.park_or_release in
    let somewhere = moves_somewhere parked.result c.index_mut.result.now.instances parked.new.self c.into_inst-inst.result.key (Waiting c.args.addr) Ready parked.ensures.ok parked.ensures.refused in
    prescribed_known c.self.inside.tags c.self.inside.steps.items c.into_inst-inst.result c.index_mut.result.now parked.new.self somewhere.0 c.args.self.now c.args.task c.self.view_is c.into_inst-inst.ensures (ap is_some c.requires)
    c.index_mut.ensures.value somewhere.1 c.self.invariant

pub returns-clause-ok : goal.returns-clause-ok
returns-clause-ok c =
    if_ok c.park_or_release.result
    (moved_known c.self.inside.tags c.self.inside.steps.items c.into_inst-inst.result c.index_mut.result.now c.park_or_release.new.self (Waiting c.args.addr) c.args.self.now c.args.task c.self.view_is c.into_inst-inst.ensures (ap is_some c.requires)
    c.index_mut.ensures.value) c.park_or_release.ensures.ok

pub returns-clause-refused : goal.returns-clause-refused
returns-clause-refused c =
    if_err c.park_or_release.result
    (moved_known c.self.inside.tags c.self.inside.steps.items c.into_inst-inst.result c.index_mut.result.now c.park_or_release.new.self Ready c.args.self.now c.args.task c.self.view_is c.into_inst-inst.ensures (ap is_some c.requires)
    c.index_mut.ensures.value) c.park_or_release.ensures.refused
