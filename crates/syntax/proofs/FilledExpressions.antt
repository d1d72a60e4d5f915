-- Fillings of an expression and its parts, from one token to the next.
use Rattle.std.proofs.Common.{◌≡◌, ◌<◌, true, false, Bool, nat_lt, if◌then◌else◌, rules, List, [], ◌∷◌, ◌++◌, Option, Some, None, refl, sym, ap, subst, ◌∙◌, append_assoc, arith}
use Rattle.std.specs.Prelude.{⊤}
use Rattle.std.proofs.lemmas.List.{append-nil}
use Rattle.syntax.specs.declared.token.Symbol.{Symbol}
use Rattle.syntax.specs.declared.token.Symbol.TheVariants as sign
use Rattle.syntax.specs.declared.limits.TheConstants.{MOST_DEPTH}
use Rattle.syntax.specs.Tokens.{Lexeme, name, number, symbol, Spot}
use Rattle.syntax.specs.Grammar.{Position, Expr, Prod, Unary, literal, variable, bracketed, Multiplication, times, over, modulo, Addition, plus, minus, Comparison, equal, not_equal, less, less_or_equal, greater, greater_or_equal}
use Rattle.syntax.specs.Spelled.{Piece, plain, at, IsPiece, expr_pieces, prod_pieces, unary_pieces, multiplication_sign, addition_sign, comparison_sign}
use Rattle.syntax.specs.Limits.{name_limits, expr_depth}
use Rattle.syntax.specs.Expected.{Comparing, never, possible, behind_left, Level, Expression, Expected, whole, operand, behind_operand, Move, taken, left_out, wrong, passed, within, begun, head, look, look_operand, broken_off, finished, level_expr, product_behind}
use Rattle.syntax.specs.Expected.{negating, bracketing, passing, without_product, awaiting_product, awaiting_sum, awaiting_comparison, closed, look_end, look_close, look_comparison, awaits, read_operand}
use Rattle.syntax.specs.Partial.{outermost, state_pieces, IsBehind}
use Rattle.syntax.proofs.Forward.{same_outermost, negating_pieces, bracketing_pieces, operand_pieces, awaiting_product_pieces, awaiting_sum_pieces, awaiting_comparison_pieces, closing_pieces}
use Rattle.syntax.proofs.Forward.{added_pieces, compared_pieces}
use Rattle.syntax.proofs.Tellings.{its_depth, within_it, EndsDeep}
use Rattle.syntax.proofs.Fillings.{◌▸◌, Fits, Ends, EndsOperand, EndsBehind, Filling, filling_pieces, Fillings, fillings_pieces}
use Rattle.syntax.proofs.Turns.{is_known, fits, Begins, Turn, takes, skips, fails, loses}

-- a filling that begins with this token, and goes on with `rest`
abbrev Begun : Expected → Spot → List Piece → Type 0
Begun first spot rest = (filling : Filling first) × Begins spot (filling_pieces first filling) rest

takes_so : {first : Expected} {spot : Spot} (more : List Expected) → fits first spot.0 more ≡ true → ((later : Fillings more) → Begun first spot (fillings_pieces more later)) → Turn first spot (taken more)
takes_so {first} {spot} more may begun = takes [] more (λ later. (begun later).0) refl may (λ later. (begun later).1)

turn_broken_off : (state : Expression) (prod : Prod) (spot : Spot) (place : Option Position) → state.passed ≡ place → Turn (behind_operand state prod) spot (broken_off place)
turn_broken_off state prod spot None same = fails refl
turn_broken_off state prod spot (Some place) same = loses place refl (within_it, same)

one_behind : (pieces : List Piece) (piece : Piece) (rest : List Piece) → (pieces ++ piece ∷ []) ++ rest ≡ pieces ++ (piece ∷ (rest ++ []))
one_behind pieces piece rest = append_assoc pieces (piece ∷ []) rest ∙ ap (λ (list : List Piece). pieces ++ (piece ∷ list)) (sym (append-nil rest))

-- the same expression, whose pieces are written in another way
ends_as : {one two : Comparing} {pieces others : List Piece} → ((expr : Expr) → Fits one expr → Fits two expr) → pieces ≡ others → Ends one pieces → Ends two others
ends_as {one} {two} {pieces} {others} fit same ends = record { expr = ends.expr; fits = fit ends.expr ends.fits; spelled = ends.spelled ∙ same }

fits_same : (one two : Comparing) → one ≡ two → (expr : Expr) → Fits one expr → Fits two expr
fits_same one two same expr fit = subst (λ (comparing : Comparing). Fits comparing expr) same fit

-- ---- before an operand

-- this token continues what is spelled so far
abbrev Goes : Expression → Spot → Move → Type 0
Goes state spot (taken more) = (fits (operand state) spot.0 more ≡ true) × ((comparing : Comparing) → fits (whole comparing) spot.0 more ≡ true)
    × ((later : Fillings more) → (piece : Piece) × IsPiece piece spot × EndsOperand state (piece ∷ fillings_pieces more later))
Goes state spot left_out = ⊥
Goes state spot wrong = ⊤
Goes state spot (passed place) = state.passed ≡ Some place

goes_broken : (state : Expression) (spot : Spot) (place : Option Position) → state.passed ≡ place → Goes state spot (broken_off place)
goes_broken state spot place same = grind arith

-- a sign after which an operand comes still
goes_awaits : (state more : Expression) (it : Symbol) (place : Position) → ((expr : Expr) → Fits (outermost more.level more.outer) expr → Fits (outermost state.level state.outer) expr)
    → state_pieces more ≡ state_pieces state ++ at place (symbol it) ∷ [] → Goes state (symbol it, place) (awaits more)
goes_awaits state more it place fit spelled = grind (arith, one_behind)

-- an operand that is one token
goes_operand : (state : Expression) (unary : Unary) (piece : Piece) (spot : Spot) → is_known spot.0 ≡ true → unary_pieces unary ≡ piece ∷ [] → IsPiece piece spot → Goes state spot (read_operand state unary)
goes_operand state unary piece spot known one is = grind (arith, one_behind, operand_pieces, same_outermost)

goes : (state : Expression) (lexeme : Lexeme) (place : Position) → Goes state (lexeme, place) (look_operand state place (head lexeme))
goes state (symbol sign.Minus) place =
    goes_awaits state (negating state place) sign.Minus place (fits_same _ _ (same_outermost (negating state place).level state.level state.outer refl)) (negating_pieces state place)
goes state (symbol sign.OpenRound) place = goes_awaits state (bracketing state place) sign.OpenRound place (λ expr fit. fit) (bracketing_pieces state place)
goes state (number value) place = goes_operand state (literal place value) (at place (number value)) (number value, place) refl refl (refl, refl)
goes state (name text) place = goes_operand (passing state (name_limits (text, place))) (variable (text, place)) (at place (name text)) (name text, place) refl refl (refl, refl)
goes state it place = goes_broken state (it, place) state.passed refl

operand_goes : (state : Expression) (spot : Spot) (move : Move) → Goes state spot move → Turn (operand state) spot move
operand_goes state spot (taken more) on = takes_so more on.0 (λ later. let it = on.2 later in (record { rest = it.0 ∷ fillings_pieces more later; makes = it.2 }, (it.0, it.1, refl)))
operand_goes state spot left_out on = absurd on
operand_goes state spot wrong on = fails refl
operand_goes state spot (passed place) on = loses place refl (within_it, on)

pub turn_operand : (state : Expression) (lexeme : Lexeme) (place : Position) → Turn (operand state) (lexeme, place) (look (operand state) lexeme place)
turn_operand state lexeme place = operand_goes state (lexeme, place) (look_operand state place (head lexeme)) (goes state lexeme place)

-- the operand 0, and what comes behind it
pub operand_read : (state : Expression) → Filling (behind_operand (without_product state) (product_behind state (literal 0 0))) → Filling (operand state)
operand_read state later =
    let it = (goes_operand state (literal 0 0) (at 0 (number 0)) (number 0, 0) refl refl (refl, refl)).2 (later ▸ tt) in
    record { rest = it.0 ∷ (later.rest ++ []); makes = it.2 }

whole_begun : (comparing : Comparing) (place : Position) (spot : Spot) (piece : Piece) (rest : List Piece) → IsPiece piece spot → EndsOperand (begun comparing place) (piece ∷ rest) → Begun (whole comparing) spot rest
whole_begun never place spot piece rest is ends = (ends.fits.0, (piece, is, ap expr_pieces (sym ends.fits.1) ∙ ends.spelled))
whole_begun possible place spot piece rest is ends = (ends.expr, (piece, is, ends.spelled))
whole_begun (behind_left left how) place spot piece rest is ends = (record { rest = piece ∷ rest; makes = ends_as (λ expr fit. tt) (simp (append_assoc, append-nil)) ends }, (piece, is, refl))

whole_goes : (comparing : Comparing) (place : Position) (spot : Spot) (move : Move) → Goes (begun comparing place) spot move → Turn (whole comparing) spot move
whole_goes comparing place spot (taken more) on = takes_so more (on.1 comparing) (λ later. let it = on.2 later in whole_begun comparing place spot it.0 (fillings_pieces more later) it.1 it.2)
whole_goes comparing place spot left_out on = absurd on
whole_goes comparing place spot wrong on = fails refl
whole_goes comparing place spot (passed other) on = absurd (cc)

pub turn_whole : (comparing : Comparing) (lexeme : Lexeme) (place : Position) → Turn (whole comparing) (lexeme, place) (look (whole comparing) lexeme place)
turn_whole comparing lexeme place = whole_goes comparing place (lexeme, place) (look_operand (begun comparing place) place (head lexeme)) (goes (begun comparing place) lexeme place)

-- ---- after an operand

behind_begun : (state : Expression) (prod : Prod) (it : Lexeme) (place : Position) (rest : List Piece) → EndsBehind state prod (plain it ∷ rest) → Begun (behind_operand state prod) (it, place) rest
behind_begun state prod it place rest ends = (record { rest = plain it ∷ rest; makes = ends }, (plain it, refl, refl))

-- the expression ends here, outside all brackets
pub ends_here : (state : Expression) (prod : Prod) → state.outer ≡ [] → EndsBehind state prod []
ends_here state prod none behind = record {
  expr = level_expr state.level prod;
  fits = grind arith;
  spelled = simp (none, behind.0, behind.1, compared_pieces, added_pieces, append_assoc, append-nil);
}

turn_finished : (state : Expression) (prod : Prod) (spot : Spot) → state.outer ≡ [] → Turn (behind_operand state prod) spot (finished state (level_expr state.level prod))
turn_finished state prod spot none = by (nat_lt MOST_DEPTH (expr_depth (level_expr state.level prod))) state.passed refl refl
  where
    by : (deep : Bool) (place : Option Position) → nat_lt MOST_DEPTH (expr_depth (level_expr state.level prod)) ≡ deep → state.passed ≡ place
        → Turn (behind_operand state prod) spot (within (if deep then state.first ∷ [] else []) (elim place [ None ↦ left_out | Some other ↦ passed other ]))
    by true place more same =
        let deep : MOST_DEPTH < expr_depth (level_expr state.level prod) = search (rules, more) in
        loses state.first refl (its_depth, (subst (λ (outer : List (Level × Position)). EndsDeep state.level outer prod) (sym none) deep, refl))
    by false None more same = skips (record { rest = []; makes = ends_here state prod none }) refl refl
    by false (Some other) more same = loses other refl (within_it, same)

turn_end : (state : Expression) (outer : List (Level × Position)) (prod : Prod) (spot : Spot) → state.outer ≡ outer → Turn (behind_operand state prod) spot (look_end state outer prod)
turn_end state [] prod spot same = turn_finished state prod spot same
turn_end state (around ∷ outer) prod spot same = turn_broken_off state prod spot state.passed refl

-- the bracket closes
pub closing_ends : (state : Expression) (level : Level) (place : Position) (outer : List (Level × Position)) (prod : Prod) (rest : List Piece) → state.outer ≡ (level, place) ∷ outer
    → EndsBehind (without_product (closed state level outer)) (product_behind (closed state level outer) (bracketed place (level_expr state.level prod))) rest
    → EndsBehind state prod (plain (symbol sign.CloseRound) ∷ (rest ++ []))
closing_ends state level place outer prod rest same ends behind =
    let so_far = operand_pieces (closed state level outer) (bracketed place (level_expr state.level prod)) ∙ closing_pieces state level place outer prod same behind.0 behind.1 in
    ends_as (λ expr fit. grind (arith, same_outermost)) (ap (λ (list : List Piece). list ++ rest) so_far ∙ one_behind (state_pieces state ++ prod_pieces prod) (plain (symbol sign.CloseRound)) rest) (ends (refl, refl))

turn_close : (state : Expression) (outer : List (Level × Position)) (prod : Prod) (place : Position) → state.outer ≡ outer
    → Turn (behind_operand state prod) (symbol sign.CloseRound, place) (look_close state outer prod)
turn_close state [] prod place same = turn_finished state prod (symbol sign.CloseRound, place) same
turn_close state (around ∷ outer) prod place same =
    takes_so _ refl (λ later. behind_begun state prod (symbol sign.CloseRound) place (later.first.rest ++ []) (closing_ends state around.0 around.1 outer prod later.first.rest same later.first.makes))

-- a sign after which an operand comes
turn_joint : (state : Expression) (prod : Prod) (more : Expression) (it : Symbol) (place : Position) → ((expr : Expr) → Fits (outermost more.level more.outer) expr → Fits (outermost state.level state.outer) expr)
    → (IsBehind state → state_pieces more ≡ (state_pieces state ++ prod_pieces prod) ++ plain (symbol it) ∷ []) → Turn (behind_operand state prod) (symbol it, place) (awaits more)
turn_joint state prod more it place fit spelled = takes_so _ refl (λ later.
    let ends : EndsBehind state prod (plain (symbol it) ∷ (later.first.rest ++ [])) =
    λ behind. ends_as fit (ap (λ (list : List Piece). list ++ later.first.rest) (spelled behind) ∙ one_behind (state_pieces state ++ prod_pieces prod) (plain (symbol it)) later.first.rest) later.first.makes in
    behind_begun state prod (symbol it) place (later.first.rest ++ []) ends)

turn_product : (state : Expression) (prod : Prod) (how : Multiplication) (place : Position) → Turn (behind_operand state prod) (symbol (multiplication_sign how), place) (awaits (awaiting_product state prod how))
turn_product state prod how place =
    turn_joint state prod (awaiting_product state prod how) (multiplication_sign how) place (fits_same _ _ (same_outermost (awaiting_product state prod how).level state.level state.outer refl))
    (λ behind. awaiting_product_pieces state prod how behind.0 behind.1)

turn_sum : (state : Expression) (prod : Prod) (how : Addition) (place : Position) → Turn (behind_operand state prod) (symbol (addition_sign how), place) (awaits (awaiting_sum state prod how))
turn_sum state prod how place =
    turn_joint state prod (awaiting_sum state prod how) (addition_sign how) place (fits_same _ _ (same_outermost (awaiting_sum state prod how).level state.level state.outer refl))
    (λ behind. awaiting_sum_pieces state prod how behind.0 behind.1)

-- any expression fits where a comparison may come
fits_comparison : (state : Expression) (prod : Prod) (how : Comparison) (outer : List (Level × Position)) → state.level.comparing ≡ possible
    → (expr : Expr) → Fits (outermost (awaiting_comparison state prod how).level outer) expr → Fits (outermost state.level outer) expr
fits_comparison state prod how [] may expr fit = subst (λ (comparing : Comparing). Fits comparing expr) (sym may) tt
fits_comparison state prod how (around ∷ outer) may expr fit = fit

turn_comparison : (state : Expression) (comparing : Comparing) (prod : Prod) (how : Comparison) (place : Position) → state.level.comparing ≡ comparing
    → Turn (behind_operand state prod) (symbol (comparison_sign how), place) (look_comparison state comparing prod how)
turn_comparison state never prod how place same = turn_end state state.outer prod (symbol (comparison_sign how), place) refl
turn_comparison state (behind_left left other) prod how place same = turn_end state state.outer prod (symbol (comparison_sign how), place) refl
turn_comparison state possible prod how place same =
    turn_joint state prod (awaiting_comparison state prod how) (comparison_sign how) place (fits_comparison state prod how state.outer same) (λ behind. awaiting_comparison_pieces state prod how same behind.0 behind.1)

pub turn_behind : (state : Expression) (prod : Prod) (lexeme : Lexeme) (place : Position) → Turn (behind_operand state prod) (lexeme, place) (look (behind_operand state prod) lexeme place)
turn_behind state prod (symbol sign.Star) place = turn_product state prod times place
turn_behind state prod (symbol sign.Slash) place = turn_product state prod over place
turn_behind state prod (symbol sign.Percent) place = turn_product state prod modulo place
turn_behind state prod (symbol sign.Plus) place = turn_sum state prod plus place
turn_behind state prod (symbol sign.Minus) place = turn_sum state prod minus place
turn_behind state prod (symbol sign.Equal) place = turn_comparison state state.level.comparing prod equal place refl
turn_behind state prod (symbol sign.NotEqual) place = turn_comparison state state.level.comparing prod not_equal place refl
turn_behind state prod (symbol sign.Less) place = turn_comparison state state.level.comparing prod less place refl
turn_behind state prod (symbol sign.LessOrEqual) place = turn_comparison state state.level.comparing prod less_or_equal place refl
turn_behind state prod (symbol sign.Greater) place = turn_comparison state state.level.comparing prod greater place refl
turn_behind state prod (symbol sign.GreaterOrEqual) place = turn_comparison state state.level.comparing prod greater_or_equal place refl
turn_behind state prod (symbol sign.CloseRound) place = turn_close state state.outer prod place refl
turn_behind state prod it place = turn_end state state.outer prod (it, place) refl
