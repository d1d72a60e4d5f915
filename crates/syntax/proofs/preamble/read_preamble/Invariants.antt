use Rattle.std.proofs.Common.{[], ◌∷◌, length}
use Rattle.syntax.specs.Expected.{relations}
use Rattle.syntax.specs.Parsed.{left}
use Rattle.syntax.specs.Declarations.{ArePreamble}
use Rattle.syntax.proofs.preamble.read_preamble.Given as goal

abbrev pub invariant-loop-relations : goal.invariant-loop-relations
invariant-loop-relations l = ArePreamble (relations ∷ []) l.declarations.items l.relations.items (left l.fn.cursor) (left l.cursor)

abbrev pub decreases-loop-relations : goal.decreases-loop-relations
decreases-loop-relations l = length (left l.cursor)
