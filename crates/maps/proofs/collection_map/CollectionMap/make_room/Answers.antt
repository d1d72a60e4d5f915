use Rattle.std.proofs.Common.{◌≤◌, ◌∙◌, ap, get_or, subst, set, arith}
use Rattle.std.proofs.lemmas.Result.{on_ok_weaker}
use Rattle.maps.specs.Numbered.{OnlyMakesRoom}
use Rattle.maps.proofs.Whole.{seen_numbered, room_after, room_before, makes_room, of_collection, set_same}
use Rattle.maps.proofs.collection_map.CollectionMap.make_room.Goals as goal

pub returns-clause-ok : goal.returns-clause-ok
returns-clause-ok g c =
    let within = of_collection c.self.inside.collections.items c.args.self.now c.args.number c.self.view_is c.requires in
    let room = room_after c.self.inside.collections.items c.args.number c.index_mut.result.now c.make_room.new.self within c.index_mut.ensures.value in
    on_ok_weaker c.make_room.result (λ (enough : c.args.count ≤ c.make_room.new.self.room). omega (arith, enough, room)) c.make_room.ensures.ok

pub returns-clause-grows : goal.returns-clause-grows
returns-clause-grows g c =
    let within = of_collection c.self.inside.collections.items c.args.self.now c.args.number c.self.view_is c.requires in
    subst (λ now. OnlyMakesRoom now (seen_numbered (set c.self.inside.collections.items c.args.number c.make_room.new.self)) c.args.number) c.self.view_is
    (makes_room c.self.inside.collections.items c.args.number c.index_mut.result.now c.make_room.new.self within c.index_mut.ensures.value c.make_room.ensures.items c.make_room.ensures.not_less)

pub returns-clause-enough : goal.returns-clause-enough
returns-clause-enough g c = λ few.
    let maps = c.self.inside.collections.items in
    let within = of_collection maps c.args.self.now c.args.number c.self.view_is c.requires in
    let before = room_before maps c.args.number c.index_mut.result.now c.make_room.new.self within c.index_mut.ensures.value in
    let room : c.args.count ≤ c.index_mut.result.now.room = omega (arith, few, before, ap (λ seen. get_or seen.room c.args.number 0) c.self.view_is) in
    ap seen_numbered (ap (set maps c.args.number) (c.make_room.ensures.enough room) ∙ set_same maps c.args.number c.index_mut.result.now c.index_mut.ensures.value) ∙ c.self.view_is
