use Rattle.std.proofs.Common.{◌∙◌, ap, refl}
use Rattle.std.specs.FinMap.{get}
use Rattle.items.specs.Held.{place}
use Rattle.machine.specs.Marked.{Marks, item_in}
use Rattle.machine.proofs.MarkedFacts.{in_one_of, item_is_in}
use Rattle.machine.proofs.marks.Marks.item.Goals as goal

pub returns : goal.returns
returns c =
    let m : Marks = record { store = c.self.inside.store.now; items = c.self.inside.items; tags = c.self.inside.tags; done = c.self.inside.done } in
    c.in_one.ensures ∙ ap in_one_of c.get.ensures ∙ item_is_in m c.self.invariant c.facts_are_told_apart.ensures.one c.args.addr (get m.items (place c.args.addr)) refl ∙ ap (λ (now : Marks). item_in now c.args.addr) c.self.view_is
