use Rattle.std.proofs.Common.{ℕ, arith}
use Rattle.terms.specs.declared.name.ItemCollection.{ItemCollection}
use Rattle.items.specs.Held.{room_for}
use Rattle.machine.proofs.Roomier.{more_room, no_room}
use Rattle.machine.proofs.Tallied.{all_filled, filled, on_err}
use Rattle.machine.proofs.memory.Memory.make_item_room.Goals as goal

pub loop-number-init : goal.loop-number-init
loop-number-init c = (no_room c.args.self.now, λ k within. absurd (omega (arith, within)))

pub loop-number-preserved-then-count-eq0 : goal.loop-number-preserved-then-count-eq0
loop-number-preserved-then-count-eq0 c =
    let room : ℕ → ℕ = λ k. room_for c.loop-number.self.items (record { 0 = k }) in
    (c.loop-number.invariant.0, filled c.args.counts.now c.loop-number.number room room (λ k. omega arith) c.loop-number.invariant.1 (let none = c.if-count-eq0.true in omega (arith, none)))

pub make_room_for_items-requires : goal.make_room_for_items-requires
make_room_for_items-requires c = omega (arith, c.loop-number-test.true, c.requires.collections, c.loop-number.invariant.0.item_collections)

pub returns-in_err-make_room_for_items-clause-grows : goal.returns-in_err-make_room_for_items-clause-grows
returns-in_err-make_room_for_items-clause-grows c =
    more_room c.args.self.now c.loop-number.self c.make_room_for_items.new.self c.loop-number.invariant.0 c.make_room_for_items.ensures.grows

pub returns-in_err-make_room_for_items-clause-refused : goal.returns-in_err-make_room_for_items-clause-refused
returns-in_err-make_room_for_items-clause-refused c =
    let it : ItemCollection = record { 0 = c.loop-number.number } in
    let less = c.in_err-make_room_for_items.ensures.refused in
    let more = c.loop-number.invariant.0.item_room it in
    on_err c.from_residual.result (it, omega (arith, less, more))

pub loop-number-preserved : goal.loop-number-preserved
loop-number-preserved c =
    let now = c.loop-number.self in
    let new = c.make_room_for_items.new.self in
    let made = c.make_room_for_items.ensures.grows in (
      more_room c.args.self.now now new c.loop-number.invariant.0 made,
      filled c.args.counts.now c.loop-number.number (λ k. room_for now.items (record { 0 = k })) (λ k. room_for new.items (record { 0 = k })) (λ k. made.item_room (record { 0 = k }))
          c.loop-number.invariant.1 c.in_ok-make_room_for_items.ensures.ok,
    )

pub returns-clause-ok : goal.returns-clause-ok
returns-clause-ok c = λ k. all_filled c.args.counts.now c.loop-number.number (λ n. room_for c.loop-number.self.items (record { 0 = n })) (omega (arith, c.loop-number-test.false)) c.loop-number.invariant.1 k.0

pub returns-clause-grows : goal.returns-clause-grows
returns-clause-grows c = c.loop-number.invariant.0
