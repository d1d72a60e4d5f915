use Rattle.std.proofs.Common.{◌∙◌, ◌<◌, ◌≤◌, ◌^◌, ap, sym, subst, arith, length, slice_get}
use Rattle.std.proofs.lemmas.Bool.Decides.{nat_tests}
use Rattle.std.proofs.lemmas.List.{length-map}
use Rattle.std.specs.FinMap.{entries}
use Rattle.maps.specs.Numbered.{placed}
use Rattle.maps.proofs.ByNumber.{item_of, read_at}
use Rattle.maps.proofs.OneCollection.{listed_in, of_one}
use Rattle.maps.proofs.Whole.{item_seen, no_collection}
use Rattle.maps.proofs.collection_map.CollectionMap.find.Goals as goal

pub returns-in-Some-clause-value : goal.returns-in-Some-clause-value
returns-in-Some-clause-value g c =
    let within : c.args.number < length c.deref.result.now = grind (arith, nat_tests, c.in-Some.ensures.lookup.0) in
    let there = read_at c.deref.result.now c.args.number c.in-Some.collection.now within c.in-Some.ensures.lookup.1 in
    c.find.ensures.value ∙ sym (item_seen _ c.args.self.now c.args.number c.args.key.now c.self.view_is ∙ ap (λ maps. item_of (slice_get maps c.args.number) c.args.key.now) (sym c.deref.ensures.value) ∙ ap (λ o. item_of o c.args.key.now) there)

pub returns-in-Some-clause-cost : goal.returns-in-Some-clause-cost
returns-in-Some-clause-cost g c = λ digits few.
    let within : c.args.number < length c.deref.result.now = grind (arith, nat_tests, c.in-Some.ensures.lookup.0) in
    let there = read_at c.deref.result.now c.args.number c.in-Some.collection.now within c.in-Some.ensures.lookup.1 in
    let listed = of_one c.args.number c.self.inside.collections.items c.args.self.now c.self.view_is ∙ ap (λ maps. listed_in c.args.number (slice_get maps c.args.number)) (sym c.deref.ensures.value) ∙ ap (listed_in c.args.number) there in
    c.find.ensures.cost digits (subst (λ n. n < 2 ^ digits) (ap length listed ∙ length-map (entries c.in-Some.collection.now.items) (placed c.args.number)) few)

pub returns-in-None-clause-value : goal.returns-in-None-clause-value
returns-in-None-clause-value g c =
    let past : length c.self.inside.collections.items ≤ c.args.number = grind (arith, nat_tests, c.in-None.ensures.lookup.0, c.deref.ensures.value) in
    sym (item_seen _ c.args.self.now c.args.number c.args.key.now c.self.view_is ∙ ap (λ o. item_of o c.args.key.now) (no_collection c.self.inside.collections.items c.args.number past))
