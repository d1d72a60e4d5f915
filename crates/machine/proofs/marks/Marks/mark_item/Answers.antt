use Rattle.std.proofs.Common.{◌∙◌, ℤ, ap, refl, subst, sym}
use Rattle.std.specs.FinMap.{get}
use Rattle.terms.specs.declared.producer.Producer.{Producer}
use Rattle.maps.specs.Marked.{MarkedPlaces}
use Rattle.items.specs.Held.{place}
use Rattle.machine.specs.Marked.{AreOfStore, Marks, MarksItem, item_in}
use Rattle.machine.proofs.MarkedFacts.{in_one_of, item_is_in, item_more, item_still}
use Rattle.machine.proofs.marks.Marks.mark_item.Goals as goal

pub invariant_of-self : goal.invariant_of-self
invariant_of-self c =
    let m : Marks = record { store = c.self.inside.store.now; items = c.self.inside.items; tags = c.self.inside.tags; done = c.self.inside.done } in
    subst (λ (marks : MarkedPlaces (ℤ × Producer)). AreOfStore (record { store = m.store; items = marks; tags = m.tags; done = m.done })) (sym c.mark.ensures.after) (item_still m c.self.invariant c.facts_are_told_apart.ensures.one c.args.addr)

pub returns-clause-before : goal.returns-clause-before
returns-clause-before c =
    let m : Marks = record { store = c.self.inside.store.now; items = c.self.inside.items; tags = c.self.inside.tags; done = c.self.inside.done } in
    c.in_one.ensures ∙ ap in_one_of c.mark.ensures.before ∙ item_is_in m c.self.invariant c.facts_are_told_apart.ensures.one c.args.addr (get m.items (place c.args.addr)) refl ∙ ap (λ (now : Marks). item_in now c.args.addr) c.self.view_is

pub returns-clause-after : goal.returns-clause-after
returns-clause-after c =
    let m : Marks = record { store = c.self.inside.store.now; items = c.self.inside.items; tags = c.self.inside.tags; done = c.self.inside.done } in
    subst (λ (old : Marks). MarksItem old (record { store = m.store; items = c.mark.new.self; tags = m.tags; done = m.done }) c.args.addr) c.self.view_is
    (subst (λ (marks : MarkedPlaces (ℤ × Producer)). MarksItem m (record { store = m.store; items = marks; tags = m.tags; done = m.done }) c.args.addr) (sym c.mark.ensures.after) (item_more m c.self.invariant c.facts_are_told_apart.ensures.one c.args.addr))
