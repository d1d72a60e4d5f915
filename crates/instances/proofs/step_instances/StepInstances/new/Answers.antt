use Rattle.std.proofs.Common.{sym}
use Rattle.instances.specs.OfStep.{is_waiting}
use Rattle.instances.specs.Queue.{capacity}
use Rattle.instances.proofs.Kept.{kept_none, none_counted}
use Rattle.instances.proofs.step_instances.StepInstances.new.Goals as goal

pub invariant_of-result : goal.invariant_of-result
invariant_of-result c = (rw (c.new.ensures, c.new-2.ensures) (kept_none (capacity c.new-2.result)), rw c.new.ensures (sym (none_counted is_waiting)))
