use Rattle.std.proofs.Common.{◌≡◌, ◌<◌, ℕ, get_or}
use Rattle.maps.proofs.marked_map.MarkedMap.first_unmarked.Given as goal

-- the pages so far are full of marks
abbrev pub invariant-loop-page : goal.invariant-loop-page
invariant-loop-page g l = (k : ℕ) → k < l.page → get_or l.self-inside.words.items k 0 ≡ 0
