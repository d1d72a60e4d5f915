use Rattle.std.proofs.Common.{Bool, subst, sym}
use Rattle.maps.specs.Marked.{MarkedPlaces}
use Rattle.machine.specs.Marked.{AreOfStore, Marks, MarksTag}
use Rattle.machine.proofs.MarkedFacts.{tag_more, tag_still}
use Rattle.machine.proofs.marks.Marks.mark_tag.Goals as goal

pub invariant_of-self : goal.invariant_of-self
invariant_of-self c =
    let m : Marks = record { store = c.self.inside.store.now; items = c.self.inside.items; tags = c.self.inside.tags; done = c.self.inside.done } in
    subst (λ (marks : MarkedPlaces Bool). AreOfStore (record { store = m.store; items = m.items; tags = marks; done = m.done })) (sym c.mark.ensures.after) (tag_still m c.self.invariant c.facts_are_told_apart.ensures.one c.args.tag)

pub returns-clause-after : goal.returns-clause-after
returns-clause-after c =
    let m : Marks = record { store = c.self.inside.store.now; items = c.self.inside.items; tags = c.self.inside.tags; done = c.self.inside.done } in
    subst (λ (old : Marks). MarksTag old (record { store = m.store; items = m.items; tags = c.mark.new.self; done = m.done }) c.args.tag) c.self.view_is
    (subst (λ (marks : MarkedPlaces Bool). MarksTag m (record { store = m.store; items = m.items; tags = marks; done = m.done }) c.args.tag) (sym c.mark.ensures.after) (tag_more m c.self.invariant c.facts_are_told_apart.ensures.one c.args.tag))
