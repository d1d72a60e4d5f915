use Rattle.std.proofs.Common.{take}
use Rattle.std.specs.List.{flat_map}
use Rattle.codec.specs.Filling.{Fills}
use Rattle.codec.specs.Spelling.{value_bytes}
use Rattle.codec.proofs.filling.fill_components.Given as goal

abbrev pub invariant-loop-component : goal.invariant-loop-component
invariant-loop-component l = Fills (flat_map value_bytes (take l.component-index l.components)) l.fn.place l.fn.out l.out l.place
