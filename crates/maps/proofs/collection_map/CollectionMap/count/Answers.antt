use Rattle.std.proofs.Common.{◌∙◌, ◌-◌, ◌^◌, ◌≤◌, ap, sym, arith, length, min, sum_by, take_all}
use Rattle.maps.proofs.OneCollection.{as_many, its_length}
use Rattle.maps.proofs.collection_map.CollectionMap.count.Goals as goal

pub returns : goal.returns
returns g c =
    let maps = c.self.inside.collections.items in
    let all : length maps ≤ c.loop-number.number = omega (arith, c.loop-number-test.false, c.len-number-end.ensures, c.self.inside.collections.ok.0) in
    c.loop-number.invariant ∙ ap (λ n. min n (2 ^ 64 - 1)) (ap (sum_by its_length) (take_all c.loop-number.number maps all) ∙ sym (as_many maps c.args.self.now c.self.view_is))
