use Rattle.std.proofs.Common.{◌≡◌, length}
use Rattle.syntax.specs.Expected.{Comparing}
use Rattle.syntax.specs.Parsed.{left}
use Rattle.syntax.specs.Partial.{IsFresh, comparison_may_come}
use Rattle.syntax.specs.Whole.{Reached}
use Rattle.syntax.proofs.expressions.expression.Given as goal

abbrev pub invariant-loop-product : goal.invariant-loop-product
invariant-loop-product l = (comparing : Comparing) → l.may_compare ≡ comparison_may_come comparing → IsFresh comparing → Reached comparing (left l.fn.cursor) (left l.cursor) l.product l.partial

abbrev pub decreases-loop-product : goal.decreases-loop-product
decreases-loop-product l = length (left l.cursor)
