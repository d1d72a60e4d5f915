use Rattle.std.proofs.Common.{drop}
use Rattle.machine.proofs.GroupSpent.{AreTaken}
use Rattle.machine.proofs.machine.Machine.take_ends.Given as goal

abbrev pub invariant-loop-end : goal.invariant-loop-end
invariant-loop-end l = AreTaken l.fn.self l.fn.tasks l.fn.ends l.self l.tasks (drop l.end-index l.fn.ends)
