use Rattle.std.proofs.Common.{◌≤◌, length}
use Rattle.syntax.specs.Parsed.{left}
use Rattle.syntax.specs.StepNames.{NameList, ListSoFar}
use Rattle.syntax.proofs.step_names.listed.Given as goal

abbrev pub invariant-loop-names : goal.invariant-loop-names
invariant-loop-names l =
    ((list : NameList l.most l.close) → ListSoFar l.most l.close (left l.fn.cursor) (left l.cursor) l.names.items list) × (length l.names.items ≤ l.most) × (length (left l.cursor) ≤ length (left l.fn.cursor))

abbrev pub decreases-loop-names : goal.decreases-loop-names
decreases-loop-names l = length (left l.cursor)
