use Rattle.std.proofs.Common.{◌≡◌, ◌<◌, ◌++◌, List, length}
use Rattle.std.specs.List.{AllByRecursion}
use Rattle.codec.specs.Entries.{MarkedTag}
use Rattle.holdings.specs.Holdings.{with_tags}
use Rattle.holdings.proofs.holdings.Holdings.read_tags.Given as goal

-- what was read so far is held, and the rest of the list is still to be read
abbrev pub invariant-loop-name : goal.invariant-loop-name
invariant-loop-name l =
    (front : List MarkedTag) × ((l.initial.list.elements ≡ front ++ l.list.elements) × (l.initial.list.ends ≡ l.list.ends)) × AllByRecursion (λ marked. marked.0.collection.0 < l.count) front
    × (l.self ≡ with_tags l.fn.self front)

abbrev pub decreases-loop-name : goal.decreases-loop-name
decreases-loop-name l = length l.list.elements
