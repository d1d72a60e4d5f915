use Rattle.std.proofs.Common.{sym, subst, [], ◌∷◌}
use Rattle.terms.specs.declared.event.Event.TheVariants.{EnvTag}
use Rattle.terms.specs.declared.put.Put.TheVariants.{Tag}
use Rattle.machine.specs.Legal.{IsLegal}
use Rattle.machine.specs.Machine.{Machine, Takes, facts}
use Rattle.machine.proofs.TakenEvent.{takes}
use Rattle.machine.proofs.Worked.{comes_of}
use Rattle.machine.proofs.machine.Machine.take_tag.Goals as goal

pub invariant_of-self : goal.invariant_of-self
invariant_of-self c =
    let event = EnvTag c.args.tag in
    let legal = subst (λ (m : Machine). IsLegal m.graph (facts m) event) (sym c.self.view_is) c.requires.legal in
    (c.taking_keeps.ensures c.self.inside.graph.value c.self.inside.memory c.put.new.self event c.self.invariant.0 legal (comes_of c.self.inside.memory c.put.new.self event (Tag c.args.tag ∷ []) c.put.ensures), c.self.invariant.1)

pub returns : goal.returns
returns c =
    let old = c.self.inside.memory in
    let g = c.self.inside.graph.value in
    let event = EnvTag c.args.tag in
    let grows = c.put.ensures in
    subst (λ (m : Machine). Takes m (record { graph = g; memory = c.put.new.self }) event) c.self.view_is
    (takes c.facts_are_told_apart.ensures.one g old c.put.new.self event (comes_of old c.put.new.self event (Tag c.args.tag ∷ []) grows) (λ i other. grows.states i) tt grows.item_room grows.tag_room)
