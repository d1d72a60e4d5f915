use Rattle.std.proofs.Common.{length}
use Rattle.syntax.specs.Parsed.{left}
use Rattle.syntax.specs.Steps.{StepsSoFar}
use Rattle.syntax.proofs.steps.steps.Given as goal

abbrev pub invariant-loop-cursor : goal.invariant-loop-cursor
invariant-loop-cursor l = StepsSoFar (left l.fn.cursor) (left l.cursor) l.steps.items

abbrev pub decreases-loop-cursor : goal.decreases-loop-cursor
decreases-loop-cursor l = length (left l.cursor)
