use Rattle.instances.proofs.Changes.{in_any_order}
use Rattle.instances.proofs.step_instances.StepInstances.park_or_release.Goals as goal

pub invariant_of-self : goal.invariant_of-self
invariant_of-self c = (rw c.note_wait.ensures.capacity (in_any_order _ _ _ _ _ c.self.invariant.0 c.note_wait.ensures.keys), c.self.invariant.1)
