use Rattle.std.proofs.Common.{subst, set}
use Rattle.std.specs.FinMap.{get}
use Rattle.std.proofs.lemmas.Result.{on_ok_weaker, IfErr-weaker}
use Rattle.maps.specs.Insertion.{IsRefused}
use Rattle.maps.specs.Numbered.{AddsAt, room_at}
use Rattle.maps.proofs.Whole.{seen_numbered, adds, is_refused, of_collection}
use Rattle.maps.proofs.collection_map.CollectionMap.insert.Goals as goal

pub returns-clause-ok : goal.returns-clause-ok
returns-clause-ok g c =
    let within = of_collection c.self.inside.collections.items c.args.self.now c.args.number c.self.view_is c.requires in
    on_ok_weaker c.insert.result (λ added.
    subst (λ now. AddsAt now (seen_numbered (set c.self.inside.collections.items c.args.number c.insert.new.self)) (c.args.number, c.args.key) c.args.value) c.self.view_is
    (adds c.self.inside.collections.items c.args.number c.index_mut.result.now c.insert.new.self within c.index_mut.ensures.value c.args.key c.args.value added))
    c.insert.ensures.ok

pub returns-clause-refused : goal.returns-clause-refused
returns-clause-refused g c =
    let within = of_collection c.self.inside.collections.items c.args.self.now c.args.number c.self.view_is c.requires in
    IfErr-weaker c.insert.result (IsRefused (get c.index_mut.result.now.items c.args.key) c.index_mut.result.now.room) (IsRefused (get c.args.self.now.items (c.args.number, c.args.key)) (room_at c.args.self.now c.args.number)) (λ error refused.
    subst (λ now. IsRefused (get now.items (c.args.number, c.args.key)) (room_at now c.args.number) error) c.self.view_is
    (is_refused c.self.inside.collections.items c.args.number c.index_mut.result.now c.insert.new.self within c.index_mut.ensures.value c.args.key error refused))
    c.insert.ensures.refused
