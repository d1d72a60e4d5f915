use Rattle.std.proofs.Common.{◌≡◌, ◌≤◌, ◌++◌, FitsSigned, take, w64}
use Rattle.std.specs.List.{flat_map, AllByRecursion}
use Rattle.std.specs.Vec.{vec_capacity}
use Rattle.codec.specs.Spelling.{value_bytes}
use Rattle.codec.proofs.writing.write_components.Given as goal

abbrev pub invariant-loop-component : goal.invariant-loop-component
invariant-loop-component l = record {
  appended : l.out.items ≡ l.fn.out.items ++ flat_map value_bytes (take l.component-index l.components);
  each : AllByRecursion (FitsSigned w64) (take l.component-index l.components);
  capacity : vec_capacity l.fn.out ≤ vec_capacity l.out;
}
