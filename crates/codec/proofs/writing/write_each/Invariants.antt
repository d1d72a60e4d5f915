use Rattle.std.proofs.Common.{◌≡◌, ◌++◌, take}
use Rattle.std.specs.List.{flat_map, AllByRecursion}
use Rattle.codec.proofs.writing.write_each.Given as goal

abbrev pub invariant-loop-element : goal.invariant-loop-element
invariant-loop-element g l = record {
  appended : l.out.items ≡ l.fn.out.items ++ flat_map g.T.Spelled.spelling (take l.element-index l.elements);
  each : AllByRecursion g.T.Spelled.Is (take l.element-index l.elements);
}
