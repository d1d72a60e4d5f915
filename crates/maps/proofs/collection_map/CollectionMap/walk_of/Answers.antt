use Rattle.std.proofs.Common.{◌∙◌, ◌<◌, ◌≤◌, ap, sym, arith, length, map, slice_get, append-nil, []}
use Rattle.std.proofs.lemmas.Bool.Decides.{nat_tests}
use Rattle.maps.specs.Numbered.{left_of, placed}
use Rattle.maps.proofs.ByNumber.{read_at}
use Rattle.maps.proofs.OneCollection.{listed_in, of_one}
use Rattle.maps.proofs.Whole.{no_collection}
use Rattle.maps.proofs.collection_map.CollectionMap.walk_of.Goals as goal

pub returns-in-Some : goal.returns-in-Some
returns-in-Some g c =
    let within : c.args.number < length c.deref.result.now = grind (arith, nat_tests, c.in-Some.ensures.lookup.0) in
    let there = read_at c.deref.result.now c.args.number c.in-Some.collection.now within c.in-Some.ensures.lookup.1 in
    append-nil _ ∙ ap (map (placed c.args.number)) c.walk.ensures ∙ ap (listed_in c.args.number) (sym there) ∙ ap (λ maps. listed_in c.args.number (slice_get maps c.args.number)) c.deref.ensures.value
    ∙ sym (of_one c.args.number c.self.inside.collections.items c.args.self.now c.self.view_is)

pub returns-in-None : goal.returns-in-None
returns-in-None g c =
    let past : length c.self.inside.collections.items ≤ c.args.number = grind (arith, nat_tests, c.in-None.ensures.lookup.0, c.deref.ensures.value) in
    ap (λ entries. left_of 0 entries []) c.none.ensures
    ∙ sym (of_one c.args.number c.self.inside.collections.items c.args.self.now c.self.view_is ∙ ap (listed_in c.args.number) (no_collection c.self.inside.collections.items c.args.number past))
