use Rattle.std.proofs.Common.{◌≡◌}
use Rattle.std.specs.Prelude.{replicate}
use Rattle.maps.specs.Keyed.{none}
use Rattle.maps.proofs.collection_map.empty_maps.Given as goal

abbrev pub invariant-loop-map : goal.invariant-loop-map
invariant-loop-map g l = l.maps.items ≡ replicate l._map none
