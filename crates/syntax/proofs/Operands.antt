-- Operands, as operators make them.
use Rattle.std.proofs.Common.{◌≡◌, ℕ, suc, max, ◌-◌, ◌+◌, ◌<◌, ◌≤◌, List, [], ◌∷◌, length, sym, subst, arith, Box, Global}
use Rattle.steptree.specs.Tree.{NamedExpression, Negation}
use Rattle.syntax.specs.declared.limits.TheConstants.{MOST_DEPTH}
use Rattle.syntax.specs.declared.operand.Operand.{Operand}
use Rattle.syntax.specs.declared.operand.Operand.TheVariants.{Kept, TooDeep}
use Rattle.syntax.specs.Grammar.{Position, Unary, negated}
use Rattle.syntax.specs.Limits.{unary_depth}
use Rattle.syntax.specs.Tree.{IsUnary}
use Rattle.syntax.specs.Expected.{negated_by}
use Rattle.syntax.specs.Partial.{Holds, HoldsUnary, Counts}

pub one_minus_more : (times : ℕ) (tree new : NamedExpression) (box : Box NamedExpression Global) → 0 < times → box.value ≡ tree
    → ((positions : List Position) (unary : Unary) → length positions ≡ times - 1 → IsUnary unary (Negation box.value) → IsUnary (negated_by positions unary) new)
    → (positions : List Position) (unary : Unary) → length positions ≡ times → IsUnary unary tree → IsUnary (negated_by positions unary) new
one_minus_more times tree new box some is rest [] unary e one = absurd (omega (arith, e))
one_minus_more times tree new box some is rest (position ∷ positions) unary e one =
    rest positions (negated position unary) (omega (arith, e)) (subst (IsUnary unary) (sym is) one)

-- ---- depths

pub negated_depth : (positions : List Position) (unary : Unary) → unary_depth (negated_by positions unary) ≡ length positions + unary_depth unary
negated_depth [] unary = omega arith
negated_depth (position ∷ positions) unary = omega (arith, negated_depth positions (negated position unary))

pub negated_kept : (times depth : ℕ) (positions : List Position) (unary : Unary) (tree new : NamedExpression) → times ≤ MOST_DEPTH - depth → Counts (length positions) times
    → HoldsUnary unary (Kept tree depth) → (length positions ≡ times → IsUnary unary tree → IsUnary (negated_by positions unary) new) → HoldsUnary (negated_by positions unary) (Kept new (depth + times))
negated_kept times depth positions unary tree new few given holds made = grind (arith, negated_depth)

pub negated_too_many : (times depth : ℕ) (positions : List Position) (unary : Unary) (tree : NamedExpression) → MOST_DEPTH - depth < times → Counts (length positions) times
    → HoldsUnary unary (Kept tree depth) → MOST_DEPTH < unary_depth (negated_by positions unary)
negated_too_many times depth positions unary tree many given holds = grind (arith, negated_depth)

pub negated_too_deep : (positions : List Position) (unary : Unary) → MOST_DEPTH < unary_depth unary → MOST_DEPTH < unary_depth (negated_by positions unary)
negated_too_deep positions unary deep = omega (arith, negated_depth positions unary, deep)

-- an operation is deeper than each of its operands
pub left_deep : (Is : NamedExpression → Type 0) (left : Operand) (depth other : ℕ) → left ≡ TooDeep → Holds Is depth left → MOST_DEPTH < suc (max depth other)
left_deep Is left depth other deep holds = let more = subst (Holds Is depth) deep holds in omega (arith, more)

pub right_deep : (Is : NamedExpression → Type 0) (right : Operand) (depth other : ℕ) → right ≡ TooDeep → Holds Is other right → MOST_DEPTH < suc (max depth other)
right_deep Is right depth other deep holds = let more = subst (Holds Is other) deep holds in omega (arith, more)
