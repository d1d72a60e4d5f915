-- An expression while it is read: what the parser keeps of it, the pieces read so far, and the limits passed so far.
use Rattle.std.specs.Prelude.{◌≡◌, ◌⊎◌, ◌<◌, ◌≤◌, ⊤, ℕ, Bool, true, false, List, [], ◌∷◌, ◌++◌, length, reverse, Option, Some, None}
use Rattle.steptree.specs.declared.expression.Operator.{Operator}
use Rattle.steptree.specs.Tree.{NamedExpression}
use Rattle.syntax.specs.declared.limits.TheConstants.{MOST_DEPTH, MOST_BRACKETS}
use Rattle.syntax.specs.declared.operand.Operand.{Operand}
use Rattle.syntax.specs.declared.operand.Operand.TheVariants.{Kept, TooDeep}
use Rattle.syntax.specs.declared.operand.Pending.{Pending}
use Rattle.syntax.specs.declared.level.Level.{Level as Kept_level}
use Rattle.syntax.specs.declared.partial.Partial.{Partial}
use Rattle.syntax.specs.declared.partial.After.{After}
use Rattle.syntax.specs.declared.partial.After.TheVariants.{AwaitsOperand, HasProduct, Ends}
use Rattle.syntax.specs.declared.stop.Stop.{Stop}
use Rattle.syntax.specs.declared.token.Symbol.TheVariants as sign
use Rattle.syntax.specs.Tokens.{Spot}
use Rattle.syntax.specs.Grammar.{Position, Expr, Comparison, compared, Sum, Addition, added, Prod, Multiplication, multiplied, Unary, bracketed}
use Rattle.syntax.specs.Limits.{expr_depth, sum_depth, prod_depth, unary_depth, sum_within, prod_within, one_more}
use Rattle.syntax.specs.Spelled.{Piece, a_sign, sign_at, sum_pieces, prod_pieces, comparison_sign, addition_sign, multiplication_sign}
use Rattle.syntax.specs.Tree.{IsExpr, IsSum, IsProd, IsUnary, AreAll, comparison_operator, addition_operator, multiplication_operator}
use Rattle.syntax.specs.Expected.{Comparing, never, possible, behind_left, Level, Expression, Expected, operand, behind_operand, negated_by, product_of, sum_of, compared_of, level_expr, look, look_end}
use Rattle.syntax.specs.Expected.{without_product, product_behind, closed}
use Rattle.syntax.specs.Front.{front_of}
use Rattle.syntax.specs.Parsed.{Spells, Goes, Stops}

-- ---- operands

-- an operand of this depth, whose tree satisfies `Is`; or `TooDeep` if this depth is too great
abbrev pub Holds : (NamedExpression → Type 0) → ℕ → Operand → Type 0
Holds Is depth (Kept tree kept) = (kept ≡ depth) × (depth ≤ MOST_DEPTH) × Is tree
Holds Is depth TooDeep = MOST_DEPTH < depth

abbrev pub HoldsExpr : Expr → Operand → Type 0
HoldsExpr expr = Holds (IsExpr expr) (expr_depth expr)

abbrev pub HoldsSum : Sum → Operand → Type 0
HoldsSum sum = Holds (IsSum sum) (sum_depth sum)

abbrev pub HoldsProd : Prod → Operand → Type 0
HoldsProd prod = Holds (IsProd prod) (prod_depth prod)

abbrev pub HoldsUnary : Unary → Operand → Type 0
HoldsUnary unary = Holds (IsUnary unary) (unary_depth unary)

-- the same number, or both are too many
abbrev pub Counts : ℕ → ℕ → Type 0
Counts many counted = (counted ≡ many) ⊎ ((MOST_DEPTH < counted) × (MOST_DEPTH < many))

-- `new` holds what `old` holds, with this many minus signs before it
abbrev pub Negates : ℕ → Operand → Operand → Type 0
Negates times old new = (positions : List Position) (unary : Unary) → Counts (length positions) times → HoldsUnary unary old → HoldsUnary (negated_by positions unary) new

-- the same of trees
abbrev pub NegatesTree : ℕ → NamedExpression → NamedExpression → Type 0
NegatesTree times old new = (positions : List Position) (unary : Unary) → length positions ≡ times → IsUnary unary old → IsUnary (negated_by positions unary) new

-- `new` holds the product, the sum or the comparison of the operand that waits and of `right`
abbrev pub MakesProduct : Pending → Operand → Operand → Type 0
MakesProduct pending right new = (left : Prod) (how : Multiplication) (unary : Unary) → pending.operator ≡ multiplication_operator how
    → HoldsProd left pending.left → HoldsUnary unary right → HoldsProd (multiplied left how unary) new

abbrev pub MakesSum : Pending → Operand → Operand → Type 0
MakesSum pending right new = (left : Sum) (how : Addition) (prod : Prod) → pending.operator ≡ addition_operator how
    → HoldsSum left pending.left → HoldsProd prod right → HoldsSum (added left how prod) new

abbrev pub MakesComparison : Pending → Operand → Operand → Type 0
MakesComparison pending right new = (left : Sum) (how : Comparison) (sum : Sum) → pending.operator ≡ comparison_operator how
    → HoldsSum left pending.left → HoldsSum sum right → HoldsExpr (compared left how sum) new

-- ---- levels

abbrev pub WaitsInSum : Option (Sum × Addition) → Option Pending → Type 0
WaitsInSum None None = ⊤
WaitsInSum (Some waits) (Some pending) = (pending.operator ≡ addition_operator waits.1) × HoldsSum waits.0 pending.left
WaitsInSum waits pending = ⊥

abbrev pub WaitsInProduct : Option (Prod × Multiplication) → Option Pending → Type 0
WaitsInProduct None None = ⊤
WaitsInProduct (Some waits) (Some pending) = (pending.operator ≡ multiplication_operator waits.1) × HoldsProd waits.0 pending.left
WaitsInProduct waits pending = ⊥

abbrev pub WaitsInComparison : Comparing → Option Pending → Type 0
WaitsInComparison never None = ⊤
WaitsInComparison possible None = ⊤
WaitsInComparison (behind_left left how) (Some pending) = (pending.operator ≡ comparison_operator how) × HoldsSum left pending.left
WaitsInComparison waits pending = ⊥

-- the same if an operand may wait or not; if none does, `new` holds what `right` holds
abbrev pub JoinsProduct : Option Pending → Operand → Operand → Type 0
JoinsProduct waiting right new = (waits : Option (Prod × Multiplication)) (unary : Unary) → WaitsInProduct waits waiting → HoldsUnary unary right → HoldsProd (product_of waits unary) new

abbrev pub JoinsSum : Option Pending → Operand → Operand → Type 0
JoinsSum waiting right new = (waits : Option (Sum × Addition)) (prod : Prod) → WaitsInSum waits waiting → HoldsProd prod right → HoldsSum (sum_of waits prod) new

abbrev pub JoinsComparison : Option Pending → Operand → Operand → Type 0
JoinsComparison waiting right new = (comparing : Comparing) (sum : Sum) → WaitsInComparison comparing waiting → HoldsSum sum right → HoldsExpr (compared_of comparing sum) new

-- whether a comparison may come
abbrev pub comparison_may_come : Comparing → Bool
comparison_may_come never = false
comparison_may_come possible = true
comparison_may_come (behind_left left how) = false

-- no left operand of a comparison waits
abbrev pub IsFresh : Comparing → Type 0
IsFresh never = ⊤
IsFresh possible = ⊤
IsFresh (behind_left left how) = ⊥

-- this holds of each way to compare in which a comparison may come, or may not, and no left operand of one waits
abbrev pub WhereFresh : Bool → (Comparing → Type 0) → Type 0
WhereFresh may_compare Holds = (comparing : Comparing) → may_compare ≡ comparison_may_come comparing → IsFresh comparing → Holds comparing

pub record IsLevel (level : Level) (kept : Kept_level) : Type 0 where
  pub may_compare : kept.may_compare ≡ comparison_may_come level.comparing
  pub comparison : WaitsInComparison level.comparing kept.comparison
  pub sum : WaitsInSum level.sum kept.sum
  pub product : WaitsInProduct level.product kept.product
  pub negations : Counts (length level.negations) kept.negations

-- `product` ends a level, and this is its expression
abbrev pub EndsLevel : Kept_level → Operand → Operand → Type 0
EndsLevel kept product expression = (level : Level) (prod : Prod) → IsLevel level kept → HoldsProd prod product → HoldsExpr (level_expr level prod) expression

-- `kept` is what the parser keeps of `state`
pub record IsPartial (state : Expression) (kept : Partial) : Type 0 where
  pub first : kept.first ≡ state.first
  pub passed : kept.passed ≡ state.passed
  pub level : IsLevel state.level kept.level
  pub outer : AreAll (λ (around : Level × Position). IsLevel around.0) state.outer (reverse kept.outer.items)

-- ---- what is spelled

abbrev pub sum_waiting : Option (Sum × Addition) → List Piece
sum_waiting None = []
sum_waiting (Some waits) = sum_pieces waits.0 ++ a_sign (addition_sign waits.1)

abbrev pub product_waiting : Option (Prod × Multiplication) → List Piece
product_waiting None = []
product_waiting (Some waits) = prod_pieces waits.0 ++ a_sign (multiplication_sign waits.1)

abbrev pub comparison_waiting : Comparing → List Piece
comparison_waiting never = []
comparison_waiting possible = []
comparison_waiting (behind_left left how) = sum_pieces left ++ a_sign (comparison_sign how)

abbrev pub minus_pieces : List Position → List Piece
minus_pieces [] = []
minus_pieces (position ∷ positions) = minus_pieces positions ++ sign_at position sign.Minus

abbrev pub level_pieces : Level → List Piece
level_pieces level = comparison_waiting level.comparing ++ sum_waiting level.sum ++ product_waiting level.product ++ minus_pieces level.negations

abbrev pub around_pieces : List (Level × Position) → List Piece
around_pieces [] = []
around_pieces (around ∷ outer) = around_pieces outer ++ level_pieces around.0 ++ sign_at around.1 sign.OpenRound

abbrev pub state_pieces : Expression → List Piece
state_pieces state = around_pieces state.outer ++ level_pieces state.level

-- ---- the limits that are passed

abbrev pub sum_limits_before : ℕ → Option (Sum × Addition) → List Position
sum_limits_before around None = []
sum_limits_before around (Some waits) = sum_within around waits.0

abbrev pub product_limits_before : ℕ → Option (Prod × Multiplication) → List Position
product_limits_before around None = []
product_limits_before around (Some waits) = prod_within around waits.0

abbrev pub comparison_limits_before : ℕ → Comparing → List Position
comparison_limits_before around never = []
comparison_limits_before around possible = []
comparison_limits_before around (behind_left left how) = sum_within around left

abbrev pub level_limits : ℕ → Level → List Position
level_limits around level = comparison_limits_before around level.comparing ++ sum_limits_before around level.sum ++ product_limits_before around level.product

abbrev pub around_limits : List (Level × Position) → List Position
around_limits [] = []
around_limits (around ∷ outer) = around_limits outer ++ level_limits (length outer) around.0 ++ one_more MOST_BRACKETS (length outer) around.1

abbrev pub state_limits : Expression → List Position
state_limits state = around_limits state.outer ++ level_limits (length state.outer) state.level

-- ---- the outermost level

abbrev pub outermost : Level → List (Level × Position) → Comparing
outermost level [] = level.comparing
outermost level (around ∷ outer) = outermost around.0 outer

-- ---- from one place in an expression to the next

abbrev pub read_so_far : Expected → List Piece
read_so_far (operand state) = state_pieces state
read_so_far (behind_operand state prod) = state_pieces state ++ prod_pieces prod
read_so_far other = []

-- if no passed limit is noted, none was passed
abbrev pub IsClear : Expected → Type 0
IsClear (operand state) = state.passed ≡ None → state_limits state ≡ []
IsClear (behind_operand state prod) = state.passed ≡ None → state_limits state ++ prod_within (length state.outer) prod ≡ []
IsClear other = ⊤

-- a key's component stays without a comparison outside brackets
abbrev pub IsSumAlone : Expected → Type 0
IsSumAlone (operand state) = outermost state.level state.outer ≡ never
IsSumAlone (behind_operand state prod) = outermost state.level state.outer ≡ never
IsSumAlone other = ⊤

pub record Onward (from to : Expected) (before after : List Spot) : Type 0 where
  pub goes : Goes (from ∷ []) (to ∷ []) before after
  pub spells : (start : List Spot) → Spells (read_so_far from) start before → Spells (read_so_far to) start after
  pub clear : IsClear from → IsClear to
  pub alone : IsSumAlone from → IsSumAlone to

-- no product and no minus sign waits for the operand
abbrev pub IsBehind : Expression → Type 0
IsBehind state = (state.level.product ≡ None) × (state.level.negations ≡ [])

-- after an operand, with this product; or before an operand, with none
abbrev pub Follows : Expected → List Spot → List Spot → Option Operand → Partial → Type 0
Follows from before after None kept = (state : Expression) × IsPartial state kept × Onward from (operand state) before after
Follows from before after (Some product) kept =
    (state : Expression) × (prod : Prod) × IsPartial state kept × IsBehind state × HoldsProd prod product × Onward from (behind_operand state prod) before after

-- the next token is not taken: the expression ends with this product, or breaks off if a bracket is open
pub record EndsBefore (state : Expression) (prod : Prod) (last : Operand) (kept : Partial) (before after : List Spot) : Type 0 where
  pub same : after ≡ before
  pub is : IsPartial state kept
  pub holds : HoldsProd prod last
  pub looks : look (behind_operand state prod) (front_of before).0 (front_of before).1 ≡ look_end state state.outer prod

abbrev pub GoesOn : Expression → Prod → List Spot → List Spot → After → Partial → Type 0
GoesOn state prod before after AwaitsOperand kept = Follows (behind_operand state prod) before after None kept
GoesOn state prod before after (HasProduct product) kept = Follows (behind_operand state prod) before after (Some product) kept
GoesOn state prod before after (Ends last) kept = EndsBefore state prod last kept before after

-- a token is taken unless the expression ends or breaks off
abbrev pub Fewer : After → ℕ → ℕ → Type 0
Fewer (Ends last) before after = after ≤ before
Fewer other before after = after < before

-- the expression, after the level around its innermost one was taken out: that level is `around`
pub record IsAround (state : Expression) (kept : Partial) (level : Level) (outer : List (Level × Position)) (around : Kept_level) : Type 0 where
  pub first : kept.first ≡ state.first
  pub passed : kept.passed ≡ state.passed
  pub inner : IsLevel state.level kept.level
  pub outside : IsLevel level around
  pub others : AreAll (λ (one : Level × Position). IsLevel one.0) outer (reverse kept.outer.items)

-- ---- what the parser makes of what it keeps, whichever expression that is of

-- of that expression, `old` was kept; of what it becomes, `new` is kept
abbrev pub Becomes : (Expression → Expression) → Partial → Partial → Type 0
Becomes next old new = (state : Expression) → IsPartial state old → IsPartial (next state) new

-- an operand ends, and this is the product so far
abbrev pub EndsOperand : Partial → Operand → Partial → Operand → Type 0
EndsOperand old last new product = (state : Expression) (unary : Unary) → IsPartial state old → HoldsUnary unary last
    → IsPartial (without_product state) new × HoldsProd (product_behind state unary) product

-- after a product and an operator, the expression awaits the right operand
abbrev pub Awaits : {H : Type 0} → (H → Operator) → (Expression → Prod → H → Expression) → Operator → Partial → Operand → Partial → Type 0
Awaits {H} operator_of awaiting operator old product new = (state : Expression) (prod : Prod) (how : H) → IsPartial state old → HoldsProd prod product → operator ≡ operator_of how
    → IsPartial (awaiting state prod how) new

-- a product ends the innermost level, whose bracket is closed; this is the product so far of the level around it
abbrev pub ClosesBracket : Partial → Kept_level → Operand → Partial → Operand → Type 0
ClosesBracket old around product new outside = (state : Expression) (prod : Prod) (level : Level) (place : Position) (outer : List (Level × Position)) → IsAround state old level outer around → HoldsProd prod product
    → IsPartial (without_product (closed state level outer)) new × HoldsProd (product_behind (closed state level outer) (bracketed place (level_expr state.level prod))) outside

-- this holds of each expression of which this is kept, and this as its last product
abbrev pub OfEnd : Partial → Operand → (Expression → Prod → Type 0) → Type 0
OfEnd kept product Holds = (state : Expression) (prod : Prod) → IsPartial state kept → HoldsProd prod product → Holds state prod

-- a token of an operand was taken, or the parser stops at it
abbrev pub TakesOperand : Partial → Partial → List Spot → List Spot → Option Operand → Type 0
TakesOperand old new before after product = (state : Expression) → IsPartial state old → Follows (operand state) before after product new

abbrev pub StopsAtOperand : Partial → List Spot → List Spot → Stop → Type 0
StopsAtOperand old before after stop = (state : Expression) → IsPartial state old → Stops (operand state ∷ []) before after stop

-- after an operand, a token was taken unless the expression ends or breaks off
abbrev pub TakesJoint : Partial → Operand → Partial → List Spot → List Spot → After → Type 0
TakesJoint old product new before after how = (state : Expression) (prod : Prod) → IsPartial state old → IsBehind state → HoldsProd prod product → GoesOn state prod before after how new
