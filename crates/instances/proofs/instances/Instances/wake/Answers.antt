use Rattle.instances.specs.declared.state.State.TheVariants.{Ready}
use Rattle.instances.specs.Known.{state_at}
use Rattle.instances.proofs.Changes.{waits_not_ready}
use Rattle.instances.proofs.Moved.{moved_known, prescribed_known}
use Rattle.instances.proofs.instances.Instances.wake.Goals as goal

pub invariant_of-self : goal.invariant_of-self
invariant_of-self c =
    prescribed_known c.self.inside.tags c.self.inside.steps.items c.args.inst c.index_mut.result.now c.wake.new.self Ready c.args.self.now c.args.inst c.self.view_is (λ i. c.args.inst)
    (waits_not_ready (state_at c.args.self.now c.args.inst) c.requires).2 c.index_mut.ensures.value c.wake.ensures c.self.invariant

pub returns : goal.returns
returns c =
    moved_known c.self.inside.tags c.self.inside.steps.items c.args.inst c.index_mut.result.now c.wake.new.self Ready c.args.self.now c.args.inst c.self.view_is (λ i. c.args.inst)
    (waits_not_ready (state_at c.args.self.now c.args.inst) c.requires).2 c.index_mut.ensures.value c.wake.ensures
