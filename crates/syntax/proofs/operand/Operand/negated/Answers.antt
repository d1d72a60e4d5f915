use Rattle.std.proofs.Common.{arith, subst}
use Rattle.syntax.specs.Partial.{HoldsUnary}
use Rattle.syntax.proofs.Operands.{negated_kept, negated_too_many, negated_too_deep}
use Rattle.syntax.proofs.operand.Operand.negated.Goals as goal

pub returns-then-times-saturating_sub : goal.returns-then-times-saturating_sub
returns-then-times-saturating_sub c = λ positions unary counts holds.
    negated_too_many c.args.times c.in-Kept.depth positions unary c.in-Kept.tree (omega (arith, c.saturating_sub.ensures)) counts (subst (HoldsUnary unary) c.in-Kept.is holds)

pub returns-in_ok-tree-in-Kept : goal.returns-in_ok-tree-in-Kept
returns-in_ok-tree-in-Kept c = λ positions unary counts holds.
    negated_kept c.args.times c.in-Kept.depth positions unary c.in-Kept.tree c.in_ok-tree-in-Kept.tree (omega (arith, c.saturating_sub.ensures)) counts (subst (HoldsUnary unary) c.in-Kept.is holds)
    (c.in_ok-tree-in-Kept.ensures positions unary)

pub returns-in-TooDeep : goal.returns-in-TooDeep
returns-in-TooDeep c = λ positions unary counts holds. negated_too_deep positions unary (subst (HoldsUnary unary) c.in-TooDeep.is holds)
