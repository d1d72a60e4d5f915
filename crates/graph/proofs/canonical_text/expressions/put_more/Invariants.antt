use Rattle.std.proofs.Common.{◌≡◌, ◌++◌, map, take, codes}
use Rattle.std.specs.List.{flat_map}
use Rattle.graph.specs.Canonical.{expression_text}
use Rattle.graph.specs.Pieces.{names_of_words}
use Rattle.graph.proofs.canonical_text.expressions.put_more.Given as goal

abbrev pub invariant-loop-expression : goal.invariant-loop-expression
invariant-loop-expression l = l.text.items ≡ l.fn.text.items ++ flat_map (λ text. codes ", " ++ text) (map (expression_text l.words.graph.now (names_of_words l.words)) (take l.expression-index l.expressions))
