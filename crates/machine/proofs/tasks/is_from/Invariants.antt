use Rattle.machine.proofs.OnceOnly.{IsStillSought}
use Rattle.machine.proofs.tasks.is_from.Given as goal

abbrev pub invariant-loop-number : goal.invariant-loop-number
invariant-loop-number l = IsStillSought l.fn.inst l.fn.tasks l.fn.from l.number
