use Rattle.std.proofs.Common.{◌≡◌, ◌≤◌, [], length}
use Rattle.steptree.specs.declared.sheet.TheConstants.{MOST_COLLECTIONS}
use Rattle.syntax.specs.Parsed.{left}
use Rattle.syntax.specs.Declarations.{AreDeclared}
use Rattle.syntax.proofs.declarations.declarations.Given as goal

abbrev pub invariant-loop-relations : goal.invariant-loop-relations
invariant-loop-relations l =
    AreDeclared l.items l.tags l.declarations.items (left l.fn.cursor) (left l.cursor) × (l.relations.items ≡ []) × (l.items ≤ MOST_COLLECTIONS) × (l.tags ≤ MOST_COLLECTIONS)

abbrev pub decreases-loop-relations : goal.decreases-loop-relations
decreases-loop-relations l = length (left l.cursor)
