use Rattle.machine.proofs.Rising.{Rises}
use Rattle.machine.proofs.tasks.are_rising.Given as goal

abbrev pub invariant-loop-number : goal.invariant-loop-number
invariant-loop-number l = Rises l.fn.tasks l.number
