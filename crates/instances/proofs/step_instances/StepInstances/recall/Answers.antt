use Rattle.instances.proofs.Changes.{in_any_order}
use Rattle.instances.proofs.step_instances.StepInstances.recall.Goals as goal

pub invariant_of-self : goal.invariant_of-self
invariant_of-self c = (rw c.recall.ensures.capacity (in_any_order _ _ _ _ _ c.self.invariant.0 c.recall.ensures.keys), c.self.invariant.1)
