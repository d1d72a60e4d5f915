use Rattle.std.proofs.Common.{length}
use Rattle.syntax.specs.Parsed.{left}
use Rattle.syntax.specs.Keys.{ComponentsSoFar}
use Rattle.syntax.proofs.keys.components.Given as goal

abbrev pub invariant-loop-components : goal.invariant-loop-components
invariant-loop-components l = ComponentsSoFar (left l.fn.cursor) (left l.cursor) l.components.items

abbrev pub decreases-loop-components : goal.decreases-loop-components
decreases-loop-components l = length (left l.cursor)
