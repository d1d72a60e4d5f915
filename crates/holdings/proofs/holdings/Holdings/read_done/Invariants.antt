use Rattle.std.proofs.Common.{◌≡◌, ◌<◌, ◌++◌, List, length}
use Rattle.std.specs.List.{AllByRecursion}
use Rattle.terms.specs.declared.name.Inst.{Inst}
use Rattle.holdings.specs.Holdings.{with_ended}
use Rattle.holdings.proofs.holdings.Holdings.read_done.Given as goal

-- what was read so far is held, and the rest of the list is still to be read
abbrev pub invariant-loop-instance : goal.invariant-loop-instance
invariant-loop-instance l =
    (front : List Inst) × ((l.initial.list.elements ≡ front ++ l.list.elements) × (l.initial.list.ends ≡ l.list.ends)) × AllByRecursion (λ instance. instance.collection.0 < l.count) front
    × (l.self ≡ with_ended l.fn.self front)

abbrev pub decreases-loop-instance : goal.decreases-loop-instance
decreases-loop-instance l = length l.list.elements
