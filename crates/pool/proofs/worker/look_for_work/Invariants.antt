use mathlib.Core.List.{IsPrefix}
use Rattle.pool.proofs.worker.look_for_work.Given as goal

abbrev pub invariant-loop-look : goal.invariant-loop-look
invariant-loop-look g l = IsPrefix l.fn.pass.seen l.pass.seen
