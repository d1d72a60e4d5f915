-- Where an expression ends or breaks off.
use Rattle.std.proofs.Common.{◌≡◌, ℕ, true, false, List, [], ◌∷◌, Some, None, refl, arith}
use Rattle.syntax.specs.Tokens.{Spot}
use Rattle.steptree.specs.Tree.{NamedExpression}
use Rattle.syntax.specs.declared.operand.Operand.{Operand}
use Rattle.syntax.specs.declared.operand.Operand.TheVariants.{Kept, TooDeep}
use Rattle.syntax.specs.declared.stop.Stop.{Stop}
use Rattle.syntax.specs.Grammar.{Position, Prod, Comparison}
use Rattle.syntax.specs.Expected.{Expected, Move, passed, level_expr, look, run, Comparing, possible, Level, Expression, look_end, look_close, look_comparison}
use Rattle.syntax.specs.Partial.{HoldsExpr, comparison_may_come}
use Rattle.syntax.specs.Whole.{IsWithinLimits}
use Rattle.syntax.specs.Front.{front_of}
use Rattle.syntax.specs.Parsed.{Tells, TellsMove}

-- where the next token is looked at, the parser stops as the definition does
pub move_told : (cause : Stop) (move : Move) (first : Expected) (behind : List Expected) (spots : List Spot) → TellsMove cause move → look first (front_of spots).0 (front_of spots).1 ≡ move
    → Tells cause spots (run (first ∷ behind) spots)
move_told cause move first behind spots told looks = grind arith

-- ---- after an operand

pub no_comparison : (state : Expression) (comparing : Comparing) (prod : Prod) (how : Comparison) → comparison_may_come comparing ≡ false → look_comparison state comparing prod how ≡ look_end state state.outer prod
no_comparison state comparing prod how none = grind arith

pub may_compare : (comparing : Comparing) → comparison_may_come comparing ≡ true → comparing ≡ possible
may_compare comparing yes_it = grind arith

pub none_to_close : (state : Expression) (outer : List (Level × Position)) (prod : Prod) → outer ≡ [] → look_close state outer prod ≡ look_end state outer prod
none_to_close state outer prod none = rw none refl

-- ---- an expression that no bracket is left open in: too deep, or with a limit passed within it, or within the limits

pub deep_end : (state : Expression) (prod : Prod) (expression : Operand) → state.outer ≡ [] → expression ≡ TooDeep → HoldsExpr (level_expr state.level prod) expression
    → look_end state state.outer prod ≡ passed state.first
deep_end state prod expression none deep holds = grind arith

pub passed_end : (state : Expression) (prod : Prod) (expression : Operand) (tree : NamedExpression) (depth : ℕ) (place : Position) → state.outer ≡ [] → expression ≡ Kept tree depth
    → HoldsExpr (level_expr state.level prod) expression → state.passed ≡ Some place → look_end state state.outer prod ≡ passed place
passed_end state prod expression tree depth place none kept holds some = grind arith

pub within_end : (state : Expression) (prod : Prod) (expression : Operand) (tree : NamedExpression) (depth : ℕ) → state.outer ≡ [] → expression ≡ Kept tree depth
    → HoldsExpr (level_expr state.level prod) expression → state.passed ≡ None → IsWithinLimits state prod tree
within_end state prod expression tree depth none kept holds clear = grind arith
