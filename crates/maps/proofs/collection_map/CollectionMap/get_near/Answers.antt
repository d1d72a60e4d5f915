use Rattle.std.proofs.Common.{◌∙◌, ◌<◌, ◌≤◌, ap, sym, arith, length, slice_get}
use Rattle.std.proofs.lemmas.Bool.Decides.{nat_tests}
use Rattle.maps.proofs.ByNumber.{item_of, read_at}
use Rattle.maps.proofs.Whole.{item_seen, no_collection}
use Rattle.maps.proofs.collection_map.CollectionMap.get_near.Goals as goal

pub returns-in_err-get : goal.returns-in_err-get
returns-in_err-get g c =
    let past : length c.self.inside.collections.items ≤ c.args.number = grind (arith, nat_tests, c.in_err-get.ensures.lookup.0, c.deref.ensures.value) in
    c.from_residual.ensures ∙ sym (item_seen _ c.args.self.now c.args.number c.args.key c.self.view_is ∙ ap (λ o. item_of o c.args.key) (no_collection c.self.inside.collections.items c.args.number past))

pub returns : goal.returns
returns g c =
    let within : c.args.number < length c.deref.result.now = grind (arith, nat_tests, c.in_ok-get.ensures.lookup.0) in
    let there = read_at c.deref.result.now c.args.number c.in_ok-get.field-0.now within c.in_ok-get.ensures.lookup.1 in
    c.get_near.ensures ∙ sym (item_seen _ c.args.self.now c.args.number c.args.key c.self.view_is ∙ ap (λ maps. item_of (slice_get maps c.args.number) c.args.key) (sym c.deref.ensures.value) ∙ ap (λ o. item_of o c.args.key) there)
