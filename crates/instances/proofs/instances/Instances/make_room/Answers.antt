use Rattle.std.proofs.Common.{◌<◌, subst, arith}
use Rattle.std.proofs.lemmas.Result.{on_ok_weaker}
use Rattle.maps.specs.Numbered.{room_at}
use Rattle.instances.specs.Known.{OnlyMakesRoom, room_for}
use Rattle.instances.proofs.Growing.{least_at_least, makes_room, on_err, still_prescribed}
use Rattle.instances.proofs.Prescribing.{least_le}
use Rattle.instances.proofs.instances.Instances.make_room.Goals as goal

pub invariant_of-self-2 : goal.invariant_of-self-2
invariant_of-self-2 c =
    still_prescribed c.args.collection.0 c.self.inside.tags c.make_room.new.self c.self.inside.steps.items c.make_all_room.new.steps.items c.make_room.ensures.grows.items c.make_all_room.ensures.grows c.self.invariant

pub returns-clause-ok : goal.returns-clause-ok
returns-clause-ok c =
    on_ok_weaker c.make_all_room.result (λ rooms. least_at_least c.args.collection.0 c.args.count (room_at c.make_room.new.self c.args.collection.0) c.make_all_room.new.steps.items c.in_ok-make_room.ensures.ok rooms) c.make_all_room.ensures.ok

pub returns-clause-grows : goal.returns-clause-grows
returns-clause-grows c =
    subst (λ known. OnlyMakesRoom known (record { tags = c.make_room.new.self; steps = c.make_all_room.new.steps.items }) c.args.collection) c.self.view_is
    (makes_room c.args.collection c.self.inside.tags c.make_room.new.self c.self.inside.steps.items c.make_all_room.new.steps.items c.make_room.ensures.grows c.make_all_room.ensures.grows)

pub returns-in_err-make_room-clause-refused : goal.returns-in_err-make_room-clause-refused
returns-in_err-make_room-clause-refused c =
    let less : room_for (record { tags = c.self.inside.tags; steps = c.self.inside.steps.items }) c.args.collection < c.args.count =
    omega (arith, least_le c.args.collection.0 (room_at c.self.inside.tags c.args.collection.0) c.self.inside.steps.items, c.in_err-make_room.ensures.refused.1) in
    on_err c.from_residual.result (subst (λ known. room_for known c.args.collection < c.args.count) c.self.view_is less)
