use Rattle.items.specs.Once.{IsOnceEach}
use Rattle.machine.proofs.OnceOnly.{Decides}
use Rattle.machine.proofs.tasks.are_once.Given as goal

abbrev pub invariant-loop-number : goal.invariant-loop-number
invariant-loop-number l = Decides IsOnceEach l.fn.tasks l.number
