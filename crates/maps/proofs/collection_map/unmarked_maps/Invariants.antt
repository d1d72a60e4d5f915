use Rattle.std.proofs.Common.{◌≡◌, ◌<◌, ◌≤◌, ℕ, length, get_or}
use Rattle.std.specs.FinMap.{empty}
use Rattle.std.specs.Vec.{vec_capacity}
use Rattle.maps.specs.Keyed.{none}
use Rattle.maps.specs.Marked.{AreUnmarked}
use Rattle.maps.proofs.collection_map.unmarked_maps.Given as goal

-- the marks of each collection so far
abbrev pub invariant-loop-collection : goal.invariant-loop-collection
invariant-loop-collection g l = record {
  many : length l.maps.items ≡ l.collection-index;
  room : length l.collections ≤ vec_capacity l.maps;
  each : (n : ℕ) → n < length l.maps.items → AreUnmarked (get_or l.collections n none).items (get_or l.maps.items n empty);
}
