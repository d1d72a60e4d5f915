use Rattle.std.proofs.Common.{◌≤◌, length}
use Rattle.terms.specs.declared.key.TheConstants.{MAX_COMPONENTS}
use Rattle.syntax.specs.Parsed.{left}
use Rattle.syntax.specs.ComponentNames.{NamesSoFar}
use Rattle.syntax.proofs.name_lists.component_names.Given as goal

abbrev pub invariant-loop-count : goal.invariant-loop-count
invariant-loop-count l = NamesSoFar (left l.fn.cursor) (left l.cursor) l.count × (l.count ≤ MAX_COMPONENTS)

abbrev pub decreases-loop-count : goal.decreases-loop-count
decreases-loop-count l = length (left l.cursor)
