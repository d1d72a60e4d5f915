use Rattle.std.proofs.Common.{subst}
use Rattle.machine.specs.Marked.{AreItemsMarked, Marks}
use Rattle.machine.proofs.MarkedFacts.{items_marked}
use Rattle.machine.proofs.marks.Marks.first_item_left.Goals as goal

pub returns-clause-none : goal.returns-clause-none
returns-clause-none c = λ none.
    let m : Marks = record { store = c.self.inside.store.now; items = c.self.inside.items; tags = c.self.inside.tags; done = c.self.inside.done } in
    subst AreItemsMarked c.self.view_is (items_marked m c.self.invariant (c.first_unmarked.ensures.none none))
