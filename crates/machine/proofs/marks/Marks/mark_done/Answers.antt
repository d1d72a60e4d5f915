use Rattle.std.proofs.Common.{subst, sym}
use Rattle.maps.specs.Marked.{MarkedPlaces}
use Rattle.instances.specs.declared.standing.Standing.{Standing}
use Rattle.machine.specs.Marked.{AreOfStore, Marks, MarksDone}
use Rattle.machine.proofs.MarkedFacts.{done_more, done_still}
use Rattle.machine.proofs.marks.Marks.mark_done.Goals as goal

pub invariant_of-self : goal.invariant_of-self
invariant_of-self c =
    let m : Marks = record { store = c.self.inside.store.now; items = c.self.inside.items; tags = c.self.inside.tags; done = c.self.inside.done } in
    subst (λ (marks : MarkedPlaces Standing). AreOfStore (record { store = m.store; items = m.items; tags = m.tags; done = marks })) (sym c.mark.ensures.after) (done_still m c.self.invariant c.facts_are_told_apart.ensures.one c.args.inst)

pub returns-clause-after : goal.returns-clause-after
returns-clause-after c =
    let m : Marks = record { store = c.self.inside.store.now; items = c.self.inside.items; tags = c.self.inside.tags; done = c.self.inside.done } in
    subst (λ (old : Marks). MarksDone old (record { store = m.store; items = m.items; tags = m.tags; done = c.mark.new.self }) c.args.inst) c.self.view_is
    (subst (λ (marks : MarkedPlaces Standing). MarksDone m (record { store = m.store; items = m.items; tags = m.tags; done = marks }) c.args.inst) (sym c.mark.ensures.after) (done_more m c.self.invariant c.facts_are_told_apart.ensures.one c.args.inst))
