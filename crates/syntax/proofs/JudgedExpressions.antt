-- What the machine says of the tokens of an expression, and that they are at most one.
use Rattle.std.proofs.Common.{◌≡◌, inl, suc, true, false, List, [], ◌∷◌, ◌++◌, length, Option, Some, None, refl, ap, subst, ◌∙◌, append_assoc, arith, sym}
use Rattle.std.proofs.lemmas.List.{append-nil}
use Rattle.syntax.specs.declared.limits.TheConstants.{MOST_BRACKETS}
use Rattle.syntax.specs.declared.token.Symbol.TheVariants as sign
use Rattle.syntax.specs.Tokens.{Lexeme, name, number, symbol, unknown, Spot}
use Rattle.syntax.specs.Grammar.{Position, Comparison, equal, Addition, plus, minus, Multiplication, times, Expr, sum_alone, compared, Sum, prod_alone, added, Prod, unary_alone, multiplied, Unary}
use Rattle.syntax.specs.Grammar.{negated, literal, variable, bracketed}
use Rattle.syntax.specs.Spelled.{Piece, plain, at, IsPiece, comparison_sign, addition_sign, multiplication_sign, a_sign, expr_pieces, sum_pieces, prod_pieces, unary_pieces}
use Rattle.syntax.specs.Limits.{one_more, depth_limits, expr_depth, expr_first, sum_first, prod_first, unary_first, expr_within, sum_within, prod_within, unary_within}
use Rattle.syntax.specs.Front.{front_of}
use Rattle.syntax.specs.Parsed.{Spells}
use Rattle.syntax.specs.Expected.{Comparing, never, possible, behind_left, Level, Expression, Expected, whole, operand, behind_operand, earlier, negated_by, product_of, sum_of, level_expr, opened}
use Rattle.syntax.specs.Expected.{within, finished, Move, left_out, passed, met, on, next, followed, Verdict, look, Next, nothing_left, at_fault, limit_passed}
use Rattle.syntax.proofs.Tellings.{Telling, as_told, of_whole, its_depth, within_it, whole_or_broken, changed, next_so, run_so, run_on}
use Rattle.syntax.proofs.Judged.{in_back, Judged, goes, breaks, judged_behind}
use Rattle.syntax.proofs.Fillings.{Whole, whole_pieces, whole_limits}
use Rattle.syntax.proofs.Behind.{is_begun, class, stands}
use Rattle.syntax.proofs.Moves.{halves}

-- an expression so far; and a level at the beginning of a product
abbrev pub so_far : Option Position → Position → Level → List (Level × Position) → Expression
so_far before first level outer = record { first = first; passed = before; level = level; outer = outer }

earlier_on : (before : Option Position) (a b : List Position) → earlier (earlier before a) b ≡ earlier before (a ++ b)
earlier_on before a b = grind arith

earlier_none : (before : Option Position) → before ≡ earlier before []
earlier_none before = grind arith

abbrev pub at_product : Comparing → Option (Sum × Addition) → Level
at_product comparing sum = record { comparing = comparing; sum = sum; product = None; negations = [] }

-- what waits of a sum, and its last product
abbrev pub sum_waits : Sum → Option (Sum × Addition)
sum_waits (prod_alone prod) = None
sum_waits (added left how right) = Some (left, how)

abbrev pub last_prod : Sum → Prod
last_prod (prod_alone prod) = prod
last_prod (added left how right) = right

sum_is : (sum : Sum) → sum_of (sum_waits sum) (last_prod sum) ≡ sum
sum_is sum = grind arith

abbrev pub expr_level : Expr → Level
expr_level (sum_alone sum) = at_product possible (sum_waits sum)
expr_level (compared left how right) = at_product (behind_left left how) (sum_waits right)

abbrev pub expr_last : Expr → Prod
expr_last (sum_alone sum) = last_prod sum
expr_last (compared left how right) = last_prod right

expr_is : (expr : Expr) → level_expr (expr_level expr) (expr_last expr) ≡ expr
expr_is expr = grind arith

-- tokens of these pieces lead from some things that may come to others
pub record Leads {R : Type 0} (go : List Expected → List Spot → R) (from : List Expected) (pieces : List Piece) (to : List Expected) : Type 0 where
  pub leads : (all later : List Spot) → Spells pieces all later → go from all ≡ go to later

infixl 6 ◌↝◌
◌↝◌ : {R : Type 0} {go : List Expected → List Spot → R} {from middle to : List Expected} {a b : List Piece} → Leads go from a middle → Leads go middle b to → Leads go from (a ++ b) to
◌↝◌ {R} {go} {from} {middle} {to} {a} {b} first second = record {
  leads = λ all later spells. let parts = halves a b all later spells in first.leads all parts.middle parts.first ∙ second.leads parts.middle later parts.second;
}

-- on a machine that goes on as `next` says
module _ {R : Type 0} (go : List Expected → List Spot → R) (step : (stack more : List Expected) (spot : Spot) (spots : List Spot) → next stack spot ≡ on more → go stack (spot ∷ spots) ≡ go more spots) (first : Position) where
  by_token : (from to : List Expected) (piece : Piece) → ((spot : Spot) → IsPiece piece spot → next from spot ≡ on to) → Leads go from (piece ∷ []) to
  by_token from to piece looks = record { leads = by }
    where
      by : (all later : List Spot) → Spells (piece ∷ []) all later → go from all ≡ go to later
      by [] later spells = absurd spells
      by (spot ∷ all) later spells = step from to spot all (looks spot spells.0) ∙ ap (go to) spells.1

  -- at a token anywhere, and at one at its position
  by_plain : (from to : List Expected) (lexeme : Lexeme) → ((position : Position) → next from (lexeme, position) ≡ on to) → Leads go from (plain lexeme ∷ []) to
  by_plain from to lexeme looks = by_token from to (plain lexeme) (λ spot is. ap (λ (it : Lexeme). next from (it, spot.1)) is ∙ looks spot.1)

  by_placed : (from to : List Expected) (lexeme : Lexeme) (position : Position) → next from (lexeme, position) ≡ on to → Leads go from (at position lexeme ∷ []) to
  by_placed from to lexeme position looks = by_token from to (at position lexeme) (λ spot is. (λ i. next from (is.0 i, is.1 i)) ∙ looks)

  -- an operator between two operands
  multiplied_by : (how : Multiplication) (before : Option Position) (level : Level) (outer : List (Level × Position)) (prod : Prod) (stack : List Expected)
      → Leads go (behind_operand (so_far before first level outer) prod ∷ stack) (a_sign (multiplication_sign how)) (operand (so_far before first (record level { product = Some (prod, how) }) outer) ∷ stack)
  multiplied_by times before level outer prod stack = by_plain _ _ (symbol sign.Star) (λ position. refl)
  multiplied_by how before level outer prod stack = by_plain _ _ (symbol (multiplication_sign how)) (λ position. refl)

  added_to : (how : Addition) (before : Option Position) (comparing : Comparing) (outer : List (Level × Position)) (sum : Sum) (stack : List Expected)
      → Leads go (behind_operand (so_far before first (at_product comparing (sum_waits sum)) outer) (last_prod sum) ∷ stack) (a_sign (addition_sign how))
      (operand (so_far before first (at_product comparing (Some (sum, how))) outer) ∷ stack)
  added_to plus before comparing outer (prod_alone prod) stack = by_plain _ _ (symbol sign.Plus) (λ position. refl)
  added_to plus before comparing outer (added left other right) stack = by_plain _ _ (symbol sign.Plus) (λ position. refl)
  added_to minus before comparing outer (prod_alone prod) stack = by_plain _ _ (symbol sign.Minus) (λ position. refl)
  added_to minus before comparing outer (added left other right) stack = by_plain _ _ (symbol sign.Minus) (λ position. refl)

  compared_with : (how : Comparison) (before : Option Position) (outer : List (Level × Position)) (sum : Sum) (stack : List Expected)
      → Leads go (behind_operand (so_far before first (at_product possible (sum_waits sum)) outer) (last_prod sum) ∷ stack) (a_sign (comparison_sign how))
      (operand (so_far before first (at_product (behind_left sum how) None) outer) ∷ stack)
  compared_with equal before outer (prod_alone prod) stack = by_plain _ _ (symbol sign.Equal) (λ position. refl)
  compared_with equal before outer (added left other right) stack = by_plain _ _ (symbol sign.Equal) (λ position. refl)
  compared_with how before outer (prod_alone prod) stack = by_plain _ _ (symbol (comparison_sign how)) (λ position. refl)
  compared_with how before outer (added left other right) stack = by_plain _ _ (symbol (comparison_sign how)) (λ position. refl)

  mutual
    -- with the first limit that is passed before and after
    pub expr_goes : (expr : Expr) (before after : Option Position) (outer : List (Level × Position)) (stack : List Expected) → earlier before (expr_within (length outer) expr) ≡ after
        → Leads go (operand (so_far before first (opened possible) outer) ∷ stack) (expr_pieces expr) (behind_operand (so_far after first (expr_level expr) outer) (expr_last expr) ∷ stack)
    expr_goes (sum_alone sum) before after outer stack is = sum_goes sum possible before after outer stack is
    expr_goes (compared left how right) before after outer stack is =
        sum_goes left possible before _ outer stack refl ↝ compared_with how _ outer left stack
        ↝ sum_goes right (behind_left left how) _ after outer stack (earlier_on before (sum_within (length outer) left) (sum_within (length outer) right) ∙ is)

    pub sum_goes : (sum : Sum) (comparing : Comparing) (before after : Option Position) (outer : List (Level × Position)) (stack : List Expected) → earlier before (sum_within (length outer) sum) ≡ after
        → Leads go (operand (so_far before first (at_product comparing None) outer) ∷ stack) (sum_pieces sum) (behind_operand (so_far after first (at_product comparing (sum_waits sum)) outer) (last_prod sum) ∷ stack)
    sum_goes (prod_alone prod) comparing before after outer stack is = prod_goes prod comparing None before after outer stack is
    sum_goes (added left how right) comparing before after outer stack is =
        sum_goes left comparing before _ outer stack refl ↝ added_to how _ comparing outer left stack
        ↝ prod_goes right comparing (Some (left, how)) _ after outer stack (earlier_on before (sum_within (length outer) left) (prod_within (length outer) right) ∙ is)

    prod_goes : (prod : Prod) (comparing : Comparing) (sum : Option (Sum × Addition)) (before after : Option Position) (outer : List (Level × Position)) (stack : List Expected)
        → earlier before (prod_within (length outer) prod) ≡ after
        → Leads go (operand (so_far before first (at_product comparing sum) outer) ∷ stack) (prod_pieces prod) (behind_operand (so_far after first (at_product comparing sum) outer) prod ∷ stack)
    prod_goes (unary_alone unary) comparing sum before after outer stack is = unary_goes unary (at_product comparing sum) before after outer stack is
    prod_goes (multiplied left how right) comparing sum before after outer stack is =
        prod_goes left comparing sum before _ outer stack refl ↝ multiplied_by how _ (at_product comparing sum) outer left stack
        ↝ unary_goes right (record (at_product comparing sum) { product = Some (left, how) }) _ after outer stack (earlier_on before (prod_within (length outer) left) (unary_within (length outer) right) ∙ is)

    unary_goes : (unary : Unary) (level : Level) (before after : Option Position) (outer : List (Level × Position)) (stack : List Expected) → earlier before (unary_within (length outer) unary) ≡ after
        → Leads go (operand (so_far before first level outer) ∷ stack) (unary_pieces unary)
        (behind_operand (so_far after first (at_product level.comparing level.sum) outer) (product_of level.product (negated_by level.negations unary)) ∷ stack)
    unary_goes (negated position unary) level before after outer stack is =
        by_placed _ _ (symbol sign.Minus) position refl ↝ unary_goes unary (record level { negations = position ∷ level.negations }) before after outer stack is
    unary_goes (literal position value) level before after outer stack is = by_placed _ _ (number value) position (ap (λ (places : Option Position).
        on (behind_operand (so_far places first (at_product level.comparing level.sum) outer) (product_of level.product (negated_by level.negations (literal position value))) ∷ stack)) (earlier_none before ∙ is))
    unary_goes (variable it) level before after outer stack is = by_placed _ _ (name it.0) it.1 (ap (λ (places : Option Position).
        on (behind_operand (so_far places first (at_product level.comparing level.sum) outer) (product_of level.product (negated_by level.negations (variable it))) ∷ stack)) is)
    unary_goes (bracketed position expr) level before after outer stack is =
        by_placed _ _ (symbol sign.OpenRound) position refl
        ↝ expr_goes expr _ after ((level, position) ∷ outer) stack (earlier_on before (one_more MOST_BRACKETS (length outer) position) (expr_within (suc (length outer)) expr) ∙ is)
        ↝ by_plain _ _ (symbol sign.CloseRound) (λ there. ap (λ (inside : Expr).
        on (behind_operand (so_far after first (at_product level.comparing level.sum) outer) (product_of level.product (negated_by level.negations (bracketed position inside))) ∷ stack)) (expr_is expr))

-- ---- whole expressions, and components

abbrev pub whole_expr : (comparing : Comparing) → Whole comparing → Expr
whole_expr never sum = sum_alone sum
whole_expr possible expr = expr
whole_expr (behind_left left how) ending = ending.makes.expr

abbrev pub whole_level : (comparing : Comparing) → Whole comparing → Level
whole_level never sum = at_product never (sum_waits sum)
whole_level possible expr = expr_level expr
whole_level (behind_left left how) ending = expr_level ending.makes.expr

abbrev pub whole_last : (comparing : Comparing) → Whole comparing → Prod
whole_last comparing it = expr_last (whole_expr comparing it)

pub whole_is : (comparing : Comparing) (it : Whole comparing) → level_expr (whole_level comparing it) (whole_last comparing it) ≡ whole_expr comparing it
whole_is never sum = ap sum_alone (sum_is sum)
whole_is possible expr = expr_is expr
whole_is (behind_left left how) ending = expr_is ending.makes.expr

pub whole_goes : {R : Type 0} (go : List Expected → List Spot → R) (step : (stack more : List Expected) (spot : Spot) (spots : List Spot) → next stack spot ≡ on more → go stack (spot ∷ spots) ≡ go more spots) (first : Position)
    (comparing : Comparing) (it : Whole comparing) (stack : List Expected) (all later : List Spot) → is_begun (whole comparing) ≡ false → Spells (whole_pieces comparing it) all later
    → go (operand (so_far None first (opened comparing) []) ∷ stack) all
    ≡ go (behind_operand (so_far (earlier None (expr_within 0 (whole_expr comparing it))) first (whole_level comparing it) []) (whole_last comparing it) ∷ stack) later
whole_goes go step first never sum stack all later new spells = (sum_goes go step first sum never None _ [] stack refl).leads all later spells
whole_goes go step first possible expr stack all later new spells = (expr_goes go step first expr None _ [] stack refl).leads all later spells
whole_goes go step first (behind_left left how) ending stack all later new spells = absurd (cc)

-- before a token that may stand behind it
pub end_looks : (comparing : Comparing) (it : Whole comparing) (lexeme : Lexeme) (before : Option Position) (first position : Position) → is_begun (whole comparing) ≡ false → stands (class (whole comparing)) lexeme ≡ true
    → look (behind_operand (so_far before first (whole_level comparing it) []) (whole_last comparing it)) lexeme position
    ≡ finished (so_far before first (whole_level comparing it) []) (level_expr (whole_level comparing it) (whole_last comparing it))
end_looks comparing it lexeme before first position new stand = grind arith

pub known_end : (comparing : Comparing) → is_begun (whole comparing) ≡ false → stands (class (whole comparing)) unknown ≡ true → ⊥
known_end comparing new stand = grind arith

-- ---- the position of the first token

-- of the first of these pieces, behind which there are more
unary_place : (unary : Unary) (more : List Piece) (all later : List Spot) → Spells (unary_pieces unary ++ more) all later → (front_of all).1 ≡ unary_first unary
unary_place unary more all later spells = grind arith

prod_place : (prod : Prod) (more : List Piece) (all later : List Spot) → Spells (prod_pieces prod ++ more) all later → (front_of all).1 ≡ prod_first prod
prod_place (unary_alone unary) more all later spells = unary_place unary more all later spells
prod_place (multiplied left how right) more all later spells = prod_place left _ all later (simp append_assoc at spells)

sum_place : (sum : Sum) (more : List Piece) (all later : List Spot) → Spells (sum_pieces sum ++ more) all later → (front_of all).1 ≡ sum_first sum
sum_place (prod_alone prod) more all later spells = prod_place prod more all later spells
sum_place (added left how right) more all later spells = sum_place left _ all later (simp append_assoc at spells)

whole_place : (comparing : Comparing) (it : Whole comparing) (all later : List Spot) → is_begun (whole comparing) ≡ false → Spells (whole_pieces comparing it) all later → (front_of all).1 ≡ expr_first (whole_expr comparing it)
whole_place never sum all later new spells = sum_place sum [] all later (simp append-nil spells)
whole_place possible (sum_alone sum) all later new spells = sum_place sum [] all later (simp append-nil spells)
whole_place possible (compared left how right) all later new spells = sum_place left _ all later (simp append_assoc at spells)
whole_place (behind_left left how) ending all later new spells = absurd (cc)

-- where an expression is expected, it begins at its first token
begins : (telling : Telling) (comparing : Comparing) (stack : List Expected) (all : List Spot)
    → run_so telling (whole comparing ∷ stack) all ≡ run_so telling (operand (so_far None (front_of all).1 (opened comparing) []) ∷ stack) all
begins telling comparing stack all = grind arith

-- a whole expression, whose depth and whose limits are reported
told : (telling : Telling) (deep limits : List Position) (stack : List Expected) (spot : Spot) (rest : List Spot)
    → Judged (deep ++ limits) (followed (met (changed (whole_or_broken telling [] (earlier None limits)) (within deep (elim (earlier None limits) [ None ↦ left_out | Some place ↦ passed place ]))) stack (next_so telling stack spot)) (spot ∷ rest) (λ after. run_so telling after rest))
    (run_so telling stack (spot ∷ rest))
told telling [] [] stack spot rest = goes refl refl
told as_told [] (place ∷ limits) stack spot rest = breaks place (inl refl) refl
told (of_whole its_depth) [] (place ∷ limits) stack spot rest = breaks place (inl refl) refl
told (of_whole within_it) [] (place ∷ limits) stack spot rest = breaks place (inl refl) refl
told as_told (place ∷ deep) limits stack spot rest = breaks place (inl refl) refl
told (of_whole its_depth) (place ∷ deep) limits stack spot rest = breaks place (inl refl) refl
told (of_whole within_it) (place ∷ deep) [] stack spot rest = breaks place (inl refl) refl
told (of_whole within_it) (place ∷ deep) (other ∷ limits) stack spot rest = breaks other (in_back other (place ∷ deep) (other ∷ limits) (inl refl)) refl

-- the verdict on a whole expression before this token
abbrev ended_so : Telling → List Expected → Spot → List Spot → Option Position → Move → Verdict
ended_so telling stack spot rest before move = followed (met (changed (whole_or_broken telling [] before) move) stack (next_so telling stack spot)) (spot ∷ rest) (λ after. run_so telling after rest)

limits_of : (comparing : Comparing) (it : Whole comparing) → is_begun (whole comparing) ≡ false → depth_limits (expr_depth (whole_expr comparing it)) (expr_first (whole_expr comparing it)) ++ expr_within 0 (whole_expr comparing it) ≡ whole_limits comparing it
limits_of never sum new = refl
limits_of possible expr new = refl
limits_of (behind_left left how) ending new = absurd (cc)

pub whole_judged : (comparing : Comparing) (it : Whole comparing) (telling : Telling) (stack : List Expected) (all later : List Spot) → is_begun (whole comparing) ≡ false → stands (class (whole comparing)) (front_of later).0 ≡ true
    → Spells (whole_pieces comparing it) all later → Judged (whole_limits comparing it) (run_so telling (whole comparing ∷ stack) all) (run_so telling stack later)
whole_judged comparing it telling stack all [] new stand spells = absurd (known_end comparing new stand)
whole_judged comparing it telling stack all (spot ∷ rest) new stand spells =
    let expr = whole_expr comparing it in
    let passed_in = earlier None (expr_within 0 expr) in
    subst (λ (limits : List Position). Judged limits (run_so telling (whole comparing ∷ stack) all) (run_so telling stack (spot ∷ rest))) (limits_of comparing it new)
    (judged_behind (
    begins telling comparing stack all
    ∙ ap (λ (first : Position). run_so telling (operand (so_far None first (opened comparing) []) ∷ stack) all) (whole_place comparing it all (spot ∷ rest) new spells)
    ∙ whole_goes (run_so telling) (run_on telling) (expr_first expr) comparing it stack all (spot ∷ rest) new spells
    ∙ ap (ended_so telling stack spot rest passed_in) (end_looks comparing it spot.0 passed_in (expr_first expr) spot.1 new stand)
    ∙ ap (λ (one : Expr). ended_so telling stack spot rest passed_in (finished (so_far passed_in (expr_first expr) (whole_level comparing it) []) one)) (whole_is comparing it)
    ) (told telling (depth_limits (expr_depth expr) (expr_first expr)) (expr_within 0 expr) stack spot rest))

-- ---- at most one expression, before a token that may stand behind one: the machine gives it back

abbrev Stopped : Type 0
Stopped = List Expected × List Spot

abbrev stopped : Next → Stopped → (List Expected → Stopped) → Stopped
stopped (on more) here later = later more
stopped nothing_left here later = here
stopped at_fault here later = here
stopped (limit_passed place) here later = here

-- where the machine stops: what may come, and the tokens that are left
abbrev until : List Expected → List Spot → Stopped
until stack [] = (stack, [])
until stack (spot ∷ spots) = stopped (next stack spot) (stack, spot ∷ spots) (λ more. until more spots)

until_on : (stack more : List Expected) (spot : Spot) (spots : List Spot) → next stack spot ≡ on more → until stack (spot ∷ spots) ≡ until more spots
until_on stack more spot spots is = ap (λ (after : Next). stopped after (stack, spot ∷ spots) (λ then_on. until then_on spots)) is

-- an expression that is whole stops the machine
stops : (deep : List Position) (before : Option Position) (here : Stopped) (later : List Expected → Stopped)
    → stopped (met (within deep (elim before [ None ↦ left_out | Some place ↦ passed place ])) [] nothing_left) here later ≡ here
stops deep before here later = grind arith

-- the expression that the machine holds
abbrev held : Stopped → Expr
held (behind_operand state prod ∷ [], rest) = level_expr state.level prod
held other = sum_alone (prod_alone (unary_alone (literal 0 0)))

whole_stops : (comparing : Comparing) (it : Whole comparing) (all later : List Spot) → is_begun (whole comparing) ≡ false → stands (class (whole comparing)) (front_of later).0 ≡ true → Spells (whole_pieces comparing it) all later
    → until (operand (so_far None 0 (opened comparing) []) ∷ []) all ≡ (behind_operand (so_far (earlier None (expr_within 0 (whole_expr comparing it))) 0 (whole_level comparing it) []) (whole_last comparing it) ∷ [], later)
whole_stops comparing it all [] new stand spells = absurd (known_end comparing new stand)
whole_stops comparing it all (spot ∷ rest) new stand spells =
    let before = earlier None (expr_within 0 (whole_expr comparing it)) in
    let stack = behind_operand (so_far before 0 (whole_level comparing it) []) (whole_last comparing it) ∷ [] in
    whole_goes until until_on 0 comparing it [] all (spot ∷ rest) new spells
    ∙ ap (λ (move : Move). stopped (met move [] nothing_left) (stack, spot ∷ rest) (λ more. until more rest)) (end_looks comparing it spot.0 before 0 spot.1 new stand)
    ∙ stops (depth_limits (expr_depth (level_expr (whole_level comparing it) (whole_last comparing it))) 0) before (stack, spot ∷ rest) (λ more. until more rest)

same_whole : (comparing : Comparing) (one two : Whole comparing) → is_begun (whole comparing) ≡ false → whole_expr comparing one ≡ whole_expr comparing two → one ≡ two
same_whole never one two new same = cc
same_whole possible one two new same = same
same_whole (behind_left left how) one two new same = absurd (cc)

pub whole_only : (comparing : Comparing) (one two : Whole comparing) (all later rest : List Spot) → is_begun (whole comparing) ≡ false → stands (class (whole comparing)) (front_of later).0 ≡ true
    → stands (class (whole comparing)) (front_of rest).0 ≡ true → Spells (whole_pieces comparing one) all later → Spells (whole_pieces comparing two) all rest → (one ≡ two) × (later ≡ rest)
whole_only comparing one two all later rest new stand also x y =
    let same = sym (whole_stops comparing one all later new stand x) ∙ whole_stops comparing two all rest new also y in
    (same_whole comparing one two new (sym (whole_is comparing one) ∙ ap held same ∙ whole_is comparing two), ap (λ (stop : Stopped). stop.1) same)
