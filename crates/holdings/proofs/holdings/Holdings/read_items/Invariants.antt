use Rattle.std.proofs.Common.{◌≡◌, ◌<◌, ◌++◌, List, length}
use Rattle.std.specs.List.{AllByRecursion}
use Rattle.codec.specs.Entries.{Item}
use Rattle.holdings.specs.Holdings.{with_items}
use Rattle.holdings.proofs.holdings.Holdings.read_items.Given as goal

-- what was read so far is held, and the rest of the list is still to be read
abbrev pub invariant-loop-address : goal.invariant-loop-address
invariant-loop-address l =
    (front : List Item) × ((l.initial.list.elements ≡ front ++ l.list.elements) × (l.initial.list.ends ≡ l.list.ends)) × AllByRecursion (λ it. it.0.collection.0 < l.count) front
    × (l.self ≡ with_items l.fn.self front)

abbrev pub decreases-loop-address : goal.decreases-loop-address
decreases-loop-address l = length l.list.elements
