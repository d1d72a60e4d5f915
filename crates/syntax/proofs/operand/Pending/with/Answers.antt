use Rattle.syntax.specs.Limits.{prod_depth, sum_depth, unary_depth}
use Rattle.syntax.specs.Tree.{IsSum, IsProd, IsUnary}
use Rattle.syntax.proofs.Operands.{left_deep, right_deep}
use Rattle.syntax.proofs.operand.Pending.with.Goals as goal

-- ---- the left operand is too deep

pub returns-in_default-clause-products : goal.returns-in_default-clause-products
returns-in_default-clause-products c = λ left how unary same one two. left_deep (IsProd left) _ (prod_depth left) (unary_depth unary) c.in_default.ensures one

pub returns-in_default-clause-sums : goal.returns-in_default-clause-sums
returns-in_default-clause-sums c = λ left how prod same one two. left_deep (IsSum left) _ (sum_depth left) (prod_depth prod) c.in_default.ensures one

pub returns-in_default-clause-comparisons : goal.returns-in_default-clause-comparisons
returns-in_default-clause-comparisons c = λ left how sum same one two. left_deep (IsSum left) _ (sum_depth left) (sum_depth sum) c.in_default.ensures one

-- ---- the right operand is

pub returns-in_default-kept-clause-products : goal.returns-in_default-kept-clause-products
returns-in_default-kept-clause-products c = λ left how unary same one two. right_deep (IsUnary unary) _ (prod_depth left) (unary_depth unary) c.in_default-kept.ensures two

pub returns-in_default-kept-clause-sums : goal.returns-in_default-kept-clause-sums
returns-in_default-kept-clause-sums c = λ left how prod same one two. right_deep (IsProd prod) _ (sum_depth left) (prod_depth prod) c.in_default-kept.ensures two

pub returns-in_default-kept-clause-comparisons : goal.returns-in_default-kept-clause-comparisons
returns-in_default-kept-clause-comparisons c = λ left how sum same one two. right_deep (IsSum sum) _ (sum_depth left) (sum_depth sum) c.in_default-kept.ensures two
