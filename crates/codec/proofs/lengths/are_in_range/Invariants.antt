use Rattle.std.proofs.Common.{FitsSigned, take, w64}
use Rattle.std.specs.List.{AllByRecursion}
use Rattle.codec.proofs.lengths.are_in_range.Given as goal

abbrev pub invariant-loop-component : goal.invariant-loop-component
invariant-loop-component l = AllByRecursion (FitsSigned w64) (take l.component-index l.components)
