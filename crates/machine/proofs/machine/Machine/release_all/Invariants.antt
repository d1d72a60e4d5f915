use Rattle.std.proofs.Common.{length}
use Rattle.machine.proofs.GivenBack.{AreGivenBack}
use Rattle.machine.proofs.machine.Machine.release_all.Given as goal

abbrev pub invariant-loop-task : goal.invariant-loop-task
invariant-loop-task l = AreGivenBack l.fn.self l.fn.tasks l.self l.tasks

abbrev pub decreases-loop-task : goal.decreases-loop-task
decreases-loop-task l = length l.tasks
