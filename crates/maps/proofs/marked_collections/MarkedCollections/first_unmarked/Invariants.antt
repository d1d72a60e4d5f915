use Rattle.std.proofs.Common.{◌<◌, ℕ, get_or}
use Rattle.std.specs.FinMap.{empty}
use Rattle.maps.specs.Marked.{AreAllMarked}
use Rattle.maps.proofs.marked_collections.MarkedCollections.first_unmarked.Given as goal

-- in the collections so far everything is marked
abbrev pub invariant-loop-number : goal.invariant-loop-number
invariant-loop-number g l = (n : ℕ) → n < l.number → AreAllMarked (get_or l.self-inside.maps.items n empty)
