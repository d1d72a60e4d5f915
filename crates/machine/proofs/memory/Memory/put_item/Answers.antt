use Rattle.std.proofs.Common.{◌≡◌, ◌∙◌, sym, ap, subst, refl, ◌<◌, ℤ, OnOk, w64}
use Rattle.std.proofs.lemmas.Int.{to_z-of_z}
use Rattle.machine.specs.declared.memory.Memory.{Memory}
use Rattle.machine.specs.Waking.{EachWaits, Wakes}
use Rattle.machine.proofs.Coming.{item_comes, none_there}
use Rattle.machine.proofs.Putting.{each_waits, not_refused}
use Rattle.std.specs.FinMap.{get}
use Rattle.maps.specs.Numbered.{Numbered, AddsAt, room_at}
use Rattle.terms.specs.declared.producer.Producer.{Producer}
use Rattle.items.specs.Held.{Held, item_at, place}
use Rattle.machine.proofs.memory.Memory.put_item.Goals as goal

pub wake_all-requires : goal.wake_all-requires
wake_all-requires c =
    subst (EachWaits c.args.self.now.instances) (sym (c.deref.ensures.value ∙ c.take_waiters-waiters.ensures.waiters))
    (each_waits c.orders_are_total.ensures.instances c.orders_are_total.ensures.instances_tie c.args.self.now c.args.addr c.requires.listed)

pub returns : goal.returns
returns c =
    let old = c.args.self.now in
    let new : Memory = record { items = c.put.new.self; instances = c.wake_all.new.instances; fault = old.fault } in
    let told = c.facts_are_told_apart.ensures.one in
    let none = none_there told c.args.addr (item_at old.items c.args.addr) c.requires.absent in
    let same : c.take_waiters-waiters.new.self.items ≡ old.items.items = ap (λ (h : Held). h.items) c.take_waiters-waiters.ensures.taken in
    let waiters = c.deref.ensures.value ∙ c.take_waiters-waiters.ensures.waiters in
    item_comes told old new c.args.addr c.args.value c.args.producer c.requires.listed c.requires.absent
    (subst (λ (items : Numbered (ℤ × Producer)). AddsAt items c.put.new.self.items (place c.args.addr) (c.args.value, c.args.producer)) same
    (not_refused c.put.result c.take_waiters-waiters.new.self c.args.addr
    (subst (λ (z : ℤ). OnOk c.put.result (AddsAt c.take_waiters-waiters.new.self.items c.put.new.self.items (place c.args.addr) (z, c.args.producer))) (to_z-of_z w64 c.args.value c.ranges.value) c.put.ensures.ok) c.put.ensures.refused (ap (λ (items : Numbered (ℤ × Producer)). get items.items (place c.args.addr)) same ∙ none)
    (subst (λ (items : Numbered (ℤ × Producer)). 0 < room_at items c.args.addr.collection.0) (sym same) c.requires.room)))
    (c.put.ensures.waiting ∙ ap (λ (h : Held). h.waiting) c.take_waiters-waiters.ensures.taken)
    (subst (Wakes old.instances c.wake_all.new.instances) waiters c.wake_all.ensures)
    refl c.requires.room
