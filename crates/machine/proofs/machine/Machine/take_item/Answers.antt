use Rattle.std.proofs.Common.{sym, subst, ℤ, w64, [], ◌∷◌, arith}
use Rattle.std.proofs.lemmas.Int.{to_z-of_z}
use Rattle.terms.specs.declared.event.Event.TheVariants.{EnvItem}
use Rattle.terms.specs.declared.producer.Producer.TheVariants.{Env}
use Rattle.terms.specs.declared.put.Put.TheVariants.{Item}
use Rattle.terms.specs.Facts.{item}
use Rattle.machine.specs.Legal.{IsLegal}
use Rattle.machine.specs.Machine.{HasRoom, Machine, Takes, facts}
use Rattle.machine.specs.Coming.{Grows}
use Rattle.graph.specs.Fits.{IsAbsent}
use Rattle.machine.specs.Memory.{facts_of}
use Rattle.machine.proofs.Ending.{one_is_free, the_only}
use Rattle.machine.proofs.Growing.{one_to_itself}
use Rattle.machine.proofs.TakenEvent.{takes}
use Rattle.machine.proofs.Worked.{comes_of}
use Rattle.machine.proofs.machine.Machine.take_item.Goals as goal

pub put-requires-clause-room : goal.put-requires-clause-room
put-requires-clause-room c =
    let old = c.self.inside.memory in
    let g = c.self.inside.graph.value in
    let it = c.args.addr in
    let legal = subst (λ (m : Machine). IsLegal m.graph (facts m) (EnvItem it c.args.value)) (sym c.self.view_is) c.requires.legal in
    let room = subst (λ (m : Machine). HasRoom m (Item it c.args.value ∷ [])) (sym c.self.view_is) c.requires.room in
    let free = one_is_free g old c.self.invariant.0.item_collections (Item it c.args.value) legal.event_is_legal.0.0 (λ a is. subst (IsAbsent (facts_of old)) (sym (the_only a it is)) legal.event_is_legal.1) in
    (free.0, free.1, omega (arith, room.items it.collection, one_to_itself it.collection.0))

pub invariant_of-self : goal.invariant_of-self
invariant_of-self c =
    let event = EnvItem c.args.addr c.args.value in
    let legal = subst (λ (m : Machine). IsLegal m.graph (facts m) event) (sym c.self.view_is) c.requires.legal in
    let grows = subst (λ (z : ℤ). Grows c.self.inside.memory c.put.new.self (item c.args.addr z Env ∷ []) (item c.args.addr z Env ∷ []) (Item c.args.addr z ∷ [])) (to_z-of_z w64 c.args.value c.ranges.value) c.put.ensures in
    (c.taking_keeps.ensures c.self.inside.graph.value c.self.inside.memory c.put.new.self event c.self.invariant.0 legal (comes_of c.self.inside.memory c.put.new.self event (Item c.args.addr c.args.value ∷ []) grows), c.self.invariant.1)

pub returns : goal.returns
returns c =
    let old = c.self.inside.memory in
    let g = c.self.inside.graph.value in
    let event = EnvItem c.args.addr c.args.value in
    let grows = subst (λ (z : ℤ). Grows old c.put.new.self (item c.args.addr z Env ∷ []) (item c.args.addr z Env ∷ []) (Item c.args.addr z ∷ [])) (to_z-of_z w64 c.args.value c.ranges.value) c.put.ensures in
    subst (λ (m : Machine). Takes m (record { graph = g; memory = c.put.new.self }) event) c.self.view_is
    (takes c.facts_are_told_apart.ensures.one g old c.put.new.self event (comes_of old c.put.new.self event (Item c.args.addr c.args.value ∷ []) grows) (λ i other. grows.states i) tt grows.item_room grows.tag_room)
