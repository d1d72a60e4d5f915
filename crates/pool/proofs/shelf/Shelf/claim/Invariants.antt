use mathlib.Core.List.{IsPrefix}
use Rattle.pool.proofs.shelf.Shelf.claim.Given as goal

-- the pass has seen no less
abbrev pub invariant-loop : goal.invariant-loop
invariant-loop g l = IsPrefix l.fn.pass.seen l.pass.seen
