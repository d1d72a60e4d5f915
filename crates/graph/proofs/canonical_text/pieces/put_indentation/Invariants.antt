use Rattle.std.proofs.Common.{◌≡◌, ◌++◌}
use Rattle.graph.specs.Pieces.{indentation}
use Rattle.graph.proofs.canonical_text.pieces.put_indentation.Given as goal

abbrev pub invariant-loop-level : goal.invariant-loop-level
invariant-loop-level l = l.text.items ≡ l.fn.text.items ++ indentation l._level
