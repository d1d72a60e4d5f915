use Rattle.std.proofs.Common.{◌≡◌, ◌+◌, ◌<◌, suc, subst, take, set, length, arith}
use Rattle.instances.specs.Known.{AllHaveRoom}
use Rattle.instances.proofs.Growing.{as_long, grown_at, grown_itself, least_below, on_err, room_at_next}
use Rattle.instances.proofs.instances.make_all_room.Goals as goal

pub loop-number-init : goal.loop-number-init
loop-number-init c = (grown_itself c.args.collection.0 c.args.steps.now.items, tt)

pub returns-in_err-make_room-clause-grows : goal.returns-in_err-make_room-clause-grows
returns-in_err-make_room-clause-grows c =
    grown_at c.args.collection.0 c.args.steps.now.items c.loop-number.steps.items c.loop-number.number c.index_mut.result.now c.make_room.new.self c.loop-number.invariant.0 c.index_mut.ensures.value c.make_room.ensures.grows

pub loop-number-preserved : goal.loop-number-preserved
loop-number-preserved c =
    let within : c.loop-number.number < length c.loop-number.steps.items =
    omega (arith, c.loop-number-test.true, c.len-number-end.ensures, c.args.steps.now.ok.0, as_long c.args.collection.0 c.args.steps.now.items c.loop-number.steps.items c.loop-number.invariant.0) in
    let next : suc c.loop-number.number ≡ c.loop-number.number + 1 = omega arith in (
      grown_at c.args.collection.0 c.args.steps.now.items c.loop-number.steps.items c.loop-number.number c.index_mut.result.now c.make_room.new.self c.loop-number.invariant.0 c.index_mut.ensures.value c.make_room.ensures.grows,
      subst (λ n. AllHaveRoom c.args.collection.0 c.args.count (take n (set c.loop-number.steps.items c.loop-number.number c.make_room.new.self))) next
          (room_at_next c.args.collection.0 c.args.count c.loop-number.steps.items c.loop-number.number c.make_room.new.self within c.loop-number.invariant.1 c.in_ok-make_room.ensures.ok),
    )

pub returns-in_err-make_room-clause-refused : goal.returns-in_err-make_room-clause-refused
returns-in_err-make_room-clause-refused c =
    let within : c.loop-number.number < length c.loop-number.steps.items =
    omega (arith, c.loop-number-test.true, c.len-number-end.ensures, c.args.steps.now.ok.0, as_long c.args.collection.0 c.args.steps.now.items c.loop-number.steps.items c.loop-number.invariant.0) in
    on_err c.from_residual.result (λ room.
    least_below c.args.collection.0 c.args.count room c.args.steps.now.items c.loop-number.steps.items c.loop-number.number c.index_mut.result.now within c.loop-number.invariant.0 c.index_mut.ensures.value
    c.in_err-make_room.ensures.refused.0 c.in_err-make_room.ensures.refused.1)
