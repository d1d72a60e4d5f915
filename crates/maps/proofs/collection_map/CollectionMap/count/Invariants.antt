use Rattle.std.proofs.Common.{◌≡◌, ◌-◌, ◌^◌, min, take, sum_by}
use Rattle.maps.proofs.OneCollection.{its_length}
use Rattle.maps.proofs.collection_map.CollectionMap.count.Given as goal

abbrev pub invariant-loop-number : goal.invariant-loop-number
invariant-loop-number g l = l.count ≡ min (sum_by its_length (take l.number l.self-inside.collections.items)) (2 ^ 64 - 1)
