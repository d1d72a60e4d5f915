use Rattle.std.proofs.Common.{length}
use mathlib.Core.List.{IsPrefix}
use Rattle.pool.specs.Worked.{IsHand}
use Rattle.pool.proofs.hand.Hand.give_back.Given as goal

abbrev pub invariant-loop-task : goal.invariant-loop-task
invariant-loop-task g l = IsHand g.J.Naming.opening l.pass.seen l.self × IsPrefix l.fn.pass.seen l.pass.seen

-- each turn gives one back
abbrev pub decreases-loop-task : goal.decreases-loop-task
decreases-loop-task g l = length l.self.claimed
