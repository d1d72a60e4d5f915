-- An expression that is read.
use Rattle.std.specs.Prelude.{◌≡◌, ◌<◌, ◌≤◌, Bool, List, [], ◌∷◌, length, Option, Some, None}
use Rattle.steptree.specs.Tree.{NamedExpression}
use Rattle.syntax.specs.declared.operand.Operand.{Operand}
use Rattle.syntax.specs.declared.partial.Partial.{Partial}
use Rattle.syntax.specs.declared.stop.Stop.{Stop}
use Rattle.syntax.specs.Tokens.{Spot}
use Rattle.syntax.specs.Grammar.{Position, Expr, Sum, sum_alone, Prod}
use Rattle.syntax.specs.Limits.{expr_limits, expr_depth, depth_limits}
use Rattle.syntax.specs.Spelled.{expr_pieces}
use Rattle.syntax.specs.Tree.{IsExpr}
use Rattle.syntax.specs.Expected.{Comparing, never, Expression, Expected, whole, operand, behind_operand, level_expr, look_end, left_out}
use Rattle.syntax.specs.Parsed.{Spells, Goes, Reads, Stops, TellsMove}
use Rattle.syntax.specs.Partial.{HoldsProd, WhereFresh, OfEnd, IsPartial, IsBehind, IsClear, IsSumAlone, read_so_far}

-- the tokens are an expression within the limits, and `tree` is its tree
pub record IsExpression (comparing : Comparing) (tree : NamedExpression) (before after : List Spot) : Type 0 where
  pub expr : Expr
  pub reads : Reads (whole comparing ∷ []) [] (expr_pieces expr) before after
  pub is : IsExpr expr tree
  pub within : expr_limits expr ≡ []
  pub alone : comparing ≡ never → (sum : Sum) × (expr ≡ sum_alone sum)

-- an expression was read, in which a comparison may come or not; or the parser stops in one
abbrev pub ReadsExpression : Bool → NamedExpression → List Spot → List Spot → Type 0
ReadsExpression may_compare tree before after = WhereFresh may_compare (λ comparing. IsExpression comparing tree before after)

abbrev pub StopsInExpression : Bool → List Spot → List Spot → Stop → Type 0
StopsInExpression may_compare before after stop = WhereFresh may_compare (λ comparing. Stops (whole comparing ∷ []) before after stop)

-- a product ends the expression, which is within the limits and has this tree
pub record IsWithinLimits (state : Expression) (prod : Prod) (tree : NamedExpression) : Type 0 where
  pub outer : state.outer ≡ []
  pub is : IsExpr (level_expr state.level prod) tree
  pub looks : look_end state state.outer prod ≡ left_out
  pub shallow : (place : Position) → depth_limits (expr_depth (level_expr state.level prod)) place ≡ []
  pub clear : state.passed ≡ None

-- what comes of an expression with this last product: its tree, or where it breaks off or passes a limit
abbrev pub EndsWithin : Partial → Operand → NamedExpression → Type 0
EndsWithin kept product tree = OfEnd kept product (λ state prod. IsWithinLimits state prod tree)

abbrev pub StopsAtEnd : Partial → Operand → Stop → Type 0
StopsAtEnd kept product stop = OfEnd kept product (λ state prod. TellsMove stop (look_end state state.outer prod))

-- ---- on the way

pub record From (comparing : Comparing) (to : Expected) (start now : List Spot) : Type 0 where
  pub goes : Goes (whole comparing ∷ []) (to ∷ []) start now
  pub spells : Spells (read_so_far to) start now
  pub clear : IsClear to
  pub alone : comparing ≡ never → IsSumAlone to

-- before an operand, or after one that ends this product
abbrev pub Reached : Comparing → List Spot → List Spot → Option Operand → Partial → Type 0
Reached comparing start now None kept = (state : Expression) × IsPartial state kept × From comparing (operand state) start now × (length now ≤ length start)
Reached comparing start now (Some product) kept =
    (state : Expression) × (prod : Prod) × IsPartial state kept × IsBehind state × HoldsProd prod product × From comparing (behind_operand state prod) start now × (length now < length start)
