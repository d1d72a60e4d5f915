-- On the way through an expression, and at its end; and an operand alone.
use Rattle.std.proofs.Common.{◌≡◌, ℕ, ℤ, pos, ◌<◌, ◌≤◌, List, [], ◌∷◌, ◌++◌, length, refl, sym, ap, subst, ◌∙◌, arith, Option, Some, None, append_assoc, Bool, true, false, lit≤, rules}
use Rattle.steptree.specs.Tree.{NamedExpression, Number, Variable}
use Rattle.steptree.specs.declared.step.Name.{Name}
use Rattle.syntax.specs.declared.limits.TheConstants.{MOST_NAME_BYTES}
use Rattle.syntax.specs.declared.operand.Operand.{Operand}
use Rattle.syntax.specs.declared.operand.Operand.TheVariants.{Kept}
use Rattle.syntax.specs.declared.partial.Partial.{Partial}
use Rattle.syntax.specs.declared.stop.Stop.{Stop}
use Rattle.syntax.specs.Tokens.{Spot, number, name}
use Rattle.syntax.specs.Grammar.{Position, Expr, Sum, sum_alone, prod_alone, Prod, unary_alone, Unary, literal, variable}
use Rattle.syntax.specs.Limits.{expr_limits, expr_depth, depth_limits, expr_within, prod_within, name_limits}
use Rattle.syntax.specs.Spelled.{expr_pieces}
use Rattle.syntax.specs.Expected.{Comparing, never, possible, behind_left, Expression, Expected, whole, operand, behind_operand, level_expr, look, look_behind, look_end, joint, without_product, product_behind, begun, run, sum_of, compared_of}
use Rattle.syntax.specs.Expected.{ends as at_end}
use Rattle.syntax.specs.Front.{front_of, behind_front}
use Rattle.syntax.specs.Parsed.{Spells, Tells, Stops}
use Rattle.syntax.specs.Partial.{HoldsExpr, HoldsProd, HoldsUnary, Onward, IsPartial, IsBehind, EndsBefore, IsFresh, comparison_may_come, outermost, Follows, read_so_far, state_limits}
use Rattle.syntax.specs.Whole.{From, Reached, IsExpression, IsWithinLimits, EndsWithin, StopsAtEnd}
use Rattle.syntax.proofs.Broken.{move_told, within_end}
use Rattle.syntax.proofs.Forward.{onward_number, onward_name}
use Rattle.syntax.proofs.Moves.{skipped}

from_on : (comparing : Comparing) (from to : Expected) (start now after : List Spot) → From comparing from start now → Onward from to now after → From comparing to start after
from_on comparing from to start now after way next = grind arith

-- from any place on the way to the next one
reached_on : (comparing : Comparing) (from : Expected) (start now after : List Spot) (product : Option Operand) (new : Partial) → From comparing from start now → length now ≤ length start → Follows from now after product new
    → length after < length now → Reached comparing start after product new
reached_on comparing from start now after product new way short next fewer = grind arith

pub begun_on : (comparing : Comparing) (start now after : List Spot) (product : Option Operand) (old new : Partial) → Reached comparing start now None old
    → ((state : Expression) → IsPartial state old → Follows (operand state) now after product new) → length after < length now → Reached comparing start after product new
begun_on comparing start now after product old new reached follows fewer = reached_on comparing (operand reached.0) start now after product new reached.2 reached.3 (follows reached.0 reached.1) fewer

pub product_on : (comparing : Comparing) (start now after : List Spot) (product : Operand) (more : Option Operand) (old new : Partial) → Reached comparing start now (Some product) old
    → ((state : Expression) (prod : Prod) → IsPartial state old → IsBehind state → HoldsProd prod product → Follows (behind_operand state prod) now after more new) → length after < length now
    → Reached comparing start after more new
product_on comparing start now after product more old new reached follows fewer =
    let short : length now ≤ length start = omega (arith, reached.6) in
    reached_on comparing (behind_operand reached.0 reached.1) start now after more new reached.5 short (follows reached.0 reached.1 reached.2 reached.3 reached.4) fewer

-- ---- the end

whole_pieces : (state : Expression) (prod : Prod) → state.outer ≡ [] → IsBehind state → read_so_far (behind_operand state prod) ≡ expr_pieces (level_expr state.level prod)
whole_pieces state prod none nothing = grind (arith, append_assoc)

whole_clear : (state : Expression) (prod : Prod) → state.outer ≡ [] → IsBehind state → state_limits state ++ prod_within (length state.outer) prod ≡ [] → expr_within 0 (level_expr state.level prod) ≡ []
whole_clear state prod none nothing clear = grind (arith, append_assoc)

alone_sum : (comparing : Comparing) (sum : Sum) → comparing ≡ never → compared_of comparing sum ≡ sum_alone sum
alone_sum comparing sum e = grind arith

no_limits : (expr : Expr) → ((place : Position) → depth_limits (expr_depth expr) place ≡ []) → expr_within 0 expr ≡ [] → expr_limits expr ≡ []
no_limits expr shallow clear = rw (shallow, clear) refl

-- the expression is within the limits, and the next token ends it
ends_within : (comparing : Comparing) (start now : List Spot) (state : Expression) (prod : Prod) (tree : NamedExpression) → From comparing (behind_operand state prod) start now → IsBehind state
    → look (behind_operand state prod) (front_of now).0 (front_of now).1 ≡ look_end state state.outer prod → IsWithinLimits state prod tree → IsExpression comparing tree start now
ends_within comparing start now state prod tree way nothing looks within =
    record {
      expr = level_expr state.level prod;
      reads = record {
        spells = subst (λ pieces. Spells pieces start now) (whole_pieces state prod within.outer nothing) way.spells;
        goes = λ behind. way.goes behind ∙ skipped (behind_operand state prod) behind now (looks ∙ within.looks);
      };
      is = within.is;
      within = no_limits (level_expr state.level prod) within.shallow (whole_clear state prod within.outer nothing (way.clear within.clear));
      alone = λ e. (sum_of state.level.sum prod, alone_sum state.level.comparing (sum_of state.level.sum prod) (sym (ap (outermost state.level) within.outer) ∙ way.alone e));
    }

pub expression_read : (comparing : Comparing) (start now after : List Spot) (product last : Operand) (old new : Partial) (tree : NamedExpression) → Reached comparing start now (Some product) old
    → ((state : Expression) (prod : Prod) → IsPartial state old → IsBehind state → HoldsProd prod product → EndsBefore state prod last new now after)
    → EndsWithin new last tree → IsExpression comparing tree start after
expression_read comparing start now after product last old new tree reached ends finishes =
    let state = reached.0 in
    let prod = reached.1 in
    let end = ends state prod reached.2 reached.3 reached.4 in
    subst (IsExpression comparing tree start) (sym end.same) (ends_within comparing start now state prod tree reached.5 reached.3 end.looks (finishes state prod end.is end.holds))

pub expression_stops : (comparing : Comparing) (start now after : List Spot) (product last : Operand) (old new : Partial) (cause : Stop) → Reached comparing start now (Some product) old
    → ((state : Expression) (prod : Prod) → IsPartial state old → IsBehind state → HoldsProd prod product → EndsBefore state prod last new now after)
    → StopsAtEnd new last cause → Stops (whole comparing ∷ []) start after cause
expression_stops comparing start now after product last old new cause reached ends finishes behind =
    let state = reached.0 in
    let prod = reached.1 in
    let end = ends state prod reached.2 reached.3 reached.4 in
    subst (λ rest. Tells cause rest (run (whole comparing ∷ behind) start)) (sym end.same) (subst (Tells cause now) (sym (reached.5.goes behind))
    (move_told cause _ (behind_operand state prod) behind now (finishes state prod end.is end.holds) end.looks))

-- the first token begins an operand
pub begins : (comparing : Comparing) (spots : List Spot) (behind : List Expected) → run (whole comparing ∷ behind) spots ≡ run (operand (begun comparing (front_of spots).1) ∷ behind) spots
begins comparing spots behind = grind arith

pub some_comparing : (may : Bool) → (comparing : Comparing) × (may ≡ comparison_may_come comparing) × IsFresh comparing
some_comparing true = (possible, refl, tt)
some_comparing false = (never, refl, tt)

-- ---- an operand alone

starts : (comparing : Comparing) (start : List Spot) → IsFresh comparing → From comparing (operand (begun comparing (front_of start).1)) start start
starts never start fresh = record { goes = begins never start; spells = refl; clear = λ e. refl; alone = λ e. e }
starts possible start fresh = record { goes = begins possible start; spells = refl; clear = λ e. refl; alone = λ e. e }
starts (behind_left left how) start fresh = absurd fresh

holds_alone : (comparing : Comparing) (unary : Unary) (tree : NamedExpression) → IsFresh comparing → HoldsUnary unary (Kept tree 1) → HoldsExpr (compared_of comparing (prod_alone (unary_alone unary))) (Kept tree 1)
holds_alone never unary tree fresh holds = holds
holds_alone possible unary tree fresh holds = holds
holds_alone (behind_left left how) unary tree fresh holds = absurd fresh

operand_alone : (comparing : Comparing) (start now : List Spot) (unary : Unary) (tree : NamedExpression) → IsFresh comparing → HoldsUnary unary (Kept tree 1) → joint (front_of now).0 ≡ at_end
    → Onward (operand (begun comparing (front_of start).1)) (behind_operand (without_product (begun comparing (front_of start).1)) (product_behind (begun comparing (front_of start).1) unary)) start now
    → IsExpression comparing tree start now
operand_alone comparing start now unary tree fresh holds end next =
    let state = without_product (begun comparing (front_of start).1) in
    let prod = product_behind (begun comparing (front_of start).1) unary in
    ends_within comparing start now state prod tree (from_on comparing _ _ start start now (starts comparing start fresh) next) (refl, refl) (ap (look_behind state prod) end)
    (within_end state prod (Kept tree 1) tree 1 refl refl (holds_alone comparing unary tree fresh holds) refl)

pub number_alone : (comparing : Comparing) (start : List Spot) (value : ℕ) (it : ℤ) → IsFresh comparing → (front_of start).0 ≡ number value → it ≡ pos value
    → joint (front_of (behind_front start)).0 ≡ at_end → IsExpression comparing (Number it) start (behind_front start)
number_alone comparing start value it fresh lexeme is end =
    operand_alone comparing start (behind_front start) (literal (front_of start).1 value) (Number it) fresh (refl, lit≤ tt, is) end (onward_number start _ (front_of start).1 refl refl (begun comparing (front_of start).1) value lexeme)

pub variable_alone : (comparing : Comparing) (start : List Spot) (it : Name) → IsFresh comparing → (front_of start).0 ≡ name it.text.now → it.place ≡ (front_of start).1 → length it.text.now ≤ MOST_NAME_BYTES
    → joint (front_of (behind_front start)).0 ≡ at_end → IsExpression comparing (Variable it) start (behind_front start)
variable_alone comparing start it fresh lexeme placed short end =
    let place = (front_of start).1 in
    let none : name_limits (it.text.now, place) ≡ [] = search (rules, arith) in
    let next = rw none at (onward_name start (behind_front start) place refl refl (begun comparing place) it.text.now lexeme) in
    operand_alone comparing start (behind_front start) (variable (it.text.now, place)) (Variable it) fresh (refl, lit≤ tt, (refl, placed)) end next
