use Rattle.std.proofs.Common.{◌≡◌, false}
use Rattle.std.specs.Prelude.{replicate}
use Rattle.graph.specs.Marks.{bits}
use Rattle.graph.proofs.tables.no_marks.Given as goal

abbrev pub invariant-loop-row : goal.invariant-loop-row
invariant-loop-row l = bits l.them ≡ replicate l._row (replicate l.width false)
