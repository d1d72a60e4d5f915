use mathlib.Core.List.{IsPrefix}
use Rattle.pool.specs.Worked.{IsHand}
use Rattle.pool.proofs.hand.Hand.look_for_waiting.Given as goal

abbrev pub invariant-loop-number : goal.invariant-loop-number
invariant-loop-number g l = IsHand g.J.Naming.opening l.pass.seen l.self × IsPrefix l.fn.pass.seen l.pass.seen
