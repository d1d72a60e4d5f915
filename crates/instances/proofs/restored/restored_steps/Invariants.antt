use Rattle.std.proofs.Common.{take}
use Rattle.instances.specs.RestoredSteps.{AreRestoredSteps}
use Rattle.instances.proofs.restored.restored_steps.Given as goal

abbrev pub invariant-loop-number : goal.invariant-loop-number
invariant-loop-number l = AreRestoredSteps l.fn.tags.items l.fn.ended.items 0 (take l.number l.prescribers) l.steps.items
