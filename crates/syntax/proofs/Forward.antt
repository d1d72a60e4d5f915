-- From one place in an expression to the next, by one token.
use Rattle.std.proofs.Common.{◌≡◌, ◌≢◌, ℕ, List, [], ◌∷◌, ◌++◌, length, refl, sym, ◌∙◌, append_assoc, Option, None, arith, ap}
use Rattle.std.proofs.lemmas.List.{append-nil}
use Rattle.syntax.specs.declared.token.Symbol.{Symbol}
use Rattle.syntax.specs.declared.token.Symbol.TheVariants as sign
use Rattle.syntax.specs.Tokens.{Spot, unknown, Lexeme, symbol, number, name}
use Rattle.syntax.specs.Grammar.{Position, Sum, Prod, Unary, negated, bracketed, Multiplication, Addition, Comparison, literal, variable}
use Rattle.syntax.specs.Spelled.{Piece, IsPiece, a_sign, sign_at, expr_pieces, sum_pieces, prod_pieces, unary_pieces, addition_sign, multiplication_sign, comparison_sign, at, plain}
use Rattle.syntax.specs.Limits.{expr_within, sum_within, prod_within, unary_within, name_limits}
use Rattle.syntax.specs.Expected.{Comparing, never, possible, Level, Expression, Expected, operand, behind_operand, taken, look, earlier, negated_by, product_of, sum_of, compared_of, level_expr}
use Rattle.syntax.specs.Expected.{product_behind, negating, bracketing, without_product, awaiting_product, awaiting_sum, awaiting_comparison, closed, look_behind, look_close, look_comparison, joint}
use Rattle.syntax.specs.Expected.{by_product, by_sum, by_comparison, passing}
use Rattle.syntax.specs.Front.{front_of, behind_front}
use Rattle.syntax.specs.Partial.{read_so_far, IsClear, IsSumAlone, Onward, outermost, state_pieces, state_limits, level_limits, sum_limits_before, comparison_limits_before, minus_pieces, sum_waiting}
use Rattle.syntax.specs.Partial.{product_waiting, comparison_waiting}
use Rattle.syntax.proofs.Judged.{both_none}
use Rattle.syntax.proofs.Moves.{spelled_on}

-- one more token
pub onward_one : (from to : Expected) (piece : Piece) (before after : List Spot) → (front_of before).0 ≢ unknown → after ≡ behind_front before
    → look from (front_of before).0 (front_of before).1 ≡ taken (to ∷ []) → IsPiece piece (front_of before) → read_so_far to ≡ read_so_far from ++ piece ∷ []
    → (IsClear from → IsClear to) → (IsSumAlone from → IsSumAlone to) → Onward from to before after
onward_one from to piece before after there moved looks is spelled clear alone = grind (arith, spelled_on)

-- ---- pieces

pub negated_pieces : (positions : List Position) (unary : Unary) → unary_pieces (negated_by positions unary) ≡ minus_pieces positions ++ unary_pieces unary
negated_pieces [] unary = refl
negated_pieces (position ∷ positions) unary = negated_pieces positions (negated position unary) ∙ sym (append_assoc (minus_pieces positions) _ _)

pub product_pieces : (waits : Option (Prod × Multiplication)) (unary : Unary) → prod_pieces (product_of waits unary) ≡ product_waiting waits ++ unary_pieces unary
product_pieces waits unary = grind arith

pub added_pieces : (waits : Option (Sum × Addition)) (prod : Prod) → sum_pieces (sum_of waits prod) ≡ sum_waiting waits ++ prod_pieces prod
added_pieces waits prod = grind arith

pub compared_pieces : (comparing : Comparing) (sum : Sum) → expr_pieces (compared_of comparing sum) ≡ comparison_waiting comparing ++ sum_pieces sum
compared_pieces comparing sum = grind arith

pub negating_pieces : (state : Expression) (place : Position) → state_pieces (negating state place) ≡ state_pieces state ++ sign_at place sign.Minus
negating_pieces state place = simp append_assoc

pub bracketing_pieces : (state : Expression) (place : Position) → state_pieces (bracketing state place) ≡ state_pieces state ++ sign_at place sign.OpenRound
bracketing_pieces state place = simp (append_assoc, append-nil)

-- an operand after what is spelled so far
pub operand_pieces : (state : Expression) (unary : Unary) → read_so_far (behind_operand (without_product state) (product_behind state unary)) ≡ state_pieces state ++ unary_pieces unary
operand_pieces state unary = simp (product_pieces, negated_pieces, append_assoc, append-nil)

pub awaiting_product_pieces : (state : Expression) (prod : Prod) (how : Multiplication) → state.level.product ≡ None → state.level.negations ≡ []
    → state_pieces (awaiting_product state prod how) ≡ read_so_far (behind_operand state prod) ++ a_sign (multiplication_sign how)
awaiting_product_pieces state prod how none no_minus = simp (none, no_minus, append_assoc, append-nil)

pub awaiting_sum_pieces : (state : Expression) (prod : Prod) (how : Addition) → state.level.product ≡ None → state.level.negations ≡ []
    → state_pieces (awaiting_sum state prod how) ≡ read_so_far (behind_operand state prod) ++ a_sign (addition_sign how)
awaiting_sum_pieces state prod how none no_minus = simp (none, no_minus, added_pieces, append_assoc, append-nil)

pub awaiting_comparison_pieces : (state : Expression) (prod : Prod) (how : Comparison) → state.level.comparing ≡ possible → state.level.product ≡ None → state.level.negations ≡ []
    → state_pieces (awaiting_comparison state prod how) ≡ read_so_far (behind_operand state prod) ++ a_sign (comparison_sign how)
awaiting_comparison_pieces state prod how may none no_minus = simp (may, none, no_minus, added_pieces, append_assoc, append-nil)

-- after the bracket that closes
pub closing_pieces : (state : Expression) (level : Level) (place : Position) (outer : List (Level × Position)) (prod : Prod) → state.outer ≡ (level, place) ∷ outer
    → state.level.product ≡ None → state.level.negations ≡ []
    → state_pieces (closed state level outer) ++ unary_pieces (bracketed place (level_expr state.level prod)) ≡ read_so_far (behind_operand state prod) ++ a_sign sign.CloseRound
closing_pieces state level place outer prod around none no_minus = simp (around, none, no_minus, compared_pieces, added_pieces, append_assoc, append-nil)

-- ---- limits

pub negated_within : (n : ℕ) (positions : List Position) (unary : Unary) → unary_within n (negated_by positions unary) ≡ unary_within n unary
negated_within n [] unary = refl
negated_within n (position ∷ positions) unary = negated_within n positions (negated position unary)

pub added_within : (n : ℕ) (waits : Option (Sum × Addition)) (prod : Prod) → sum_within n (sum_of waits prod) ≡ sum_limits_before n waits ++ prod_within n prod
added_within n waits prod = grind arith

pub compared_within : (n : ℕ) (comparing : Comparing) (sum : Sum) → expr_within n (compared_of comparing sum) ≡ comparison_limits_before n comparing ++ sum_within n sum
compared_within n comparing sum = grind arith

pub level_within : (n : ℕ) (level : Level) (prod : Prod) → level.product ≡ None → expr_within n (level_expr level prod) ≡ level_limits n level ++ prod_within n prod
level_within n level prod none = simp (none, compared_within, added_within, append_assoc, append-nil)

-- no limit was passed before, and none is passed now
pub not_earlier : (passed : Option Position) (places : List Position) → earlier passed places ≡ None → (passed ≡ None) × (places ≡ [])
not_earlier passed places e = grind arith

pub clear_negating : (state : Expression) (place : Position) → IsClear (operand state) → IsClear (operand (negating state place))
clear_negating state place clear = clear

pub clear_bracketing : (state : Expression) (place : Position) → IsClear (operand state) → IsClear (operand (bracketing state place))
clear_bracketing state place clear = grind arith

pub clear_operand : (state : Expression) (unary : Unary) → (state.passed ≡ None → unary_within (length state.outer) unary ≡ []) → (state.passed ≡ None → state_limits state ≡ [])
    → IsClear (behind_operand (without_product state) (product_behind state unary))
clear_operand state unary within clear = grind (arith, append-nil, append_assoc, negated_within)

pub clear_awaiting_product : (state : Expression) (prod : Prod) (how : Multiplication) → state.level.product ≡ None → IsClear (behind_operand state prod) → IsClear (operand (awaiting_product state prod how))
clear_awaiting_product state prod how none clear e = simp append_assoc (simp (none, append_assoc, append-nil) at (clear e))

pub clear_awaiting_sum : (state : Expression) (prod : Prod) (how : Addition) → state.level.product ≡ None → IsClear (behind_operand state prod) → IsClear (operand (awaiting_sum state prod how))
clear_awaiting_sum state prod how none clear e = simp (none, added_within, append_assoc, append-nil) (simp (none, append_assoc, append-nil) at (clear e))

pub clear_awaiting_comparison : (state : Expression) (prod : Prod) (how : Comparison) → state.level.comparing ≡ possible → state.level.product ≡ None → IsClear (behind_operand state prod)
    → IsClear (operand (awaiting_comparison state prod how))
clear_awaiting_comparison state prod how may none clear e = simp (none, added_within, append_assoc, append-nil) (simp (may, none, append_assoc, append-nil) at (clear e))

pub clear_closing : (state : Expression) (level : Level) (place : Position) (outer : List (Level × Position)) (prod : Prod) → state.outer ≡ (level, place) ∷ outer → state.level.product ≡ None
    → IsClear (behind_operand state prod)
    → IsClear (behind_operand (without_product (closed state level outer)) (product_behind (closed state level outer) (bracketed place (level_expr state.level prod))))
clear_closing state level place outer prod around none clear =
    let parts = λ (e : state.passed ≡ None). both_none (state_limits (closed state level outer)) (unary_within (length outer) (bracketed place (level_expr state.level prod)))
    (simp (none, level_within, compared_within, added_within, append_assoc, append-nil) (simp (around, none, append_assoc, append-nil) at (clear e))) in
    clear_operand (closed state level outer) (bracketed place (level_expr state.level prod)) (λ e. (parts e).1) (λ e. (parts e).0)

-- ---- the outermost level

not_possible : possible ≡ never → ⊥
not_possible e = cc

pub same_outermost : (one two : Level) (outer : List (Level × Position)) → one.comparing ≡ two.comparing → outermost one outer ≡ outermost two outer
same_outermost one two [] e = e
same_outermost one two (around ∷ outer) e = refl

pub alone_comparison : (state : Expression) (prod : Prod) (how : Comparison) → state.level.comparing ≡ possible → outermost state.level state.outer ≡ never
    → outermost (awaiting_comparison state prod how).level state.outer ≡ never
alone_comparison state prod how may alone = elim state.outer as (λ outer. outermost state.level outer ≡ never → outermost (awaiting_comparison state prod how).level outer ≡ never) [
  | [] ↦ λ one. absurd (not_possible (sym may ∙ one))
  | around ∷ outer ↦ λ one. one
] alone

-- ---- each token

-- a token that is known
pub known : (before : List Spot) (lexeme : Lexeme) → (front_of before).0 ≡ lexeme → lexeme ≢ unknown → (front_of before).0 ≢ unknown
known before lexeme is some none = some (sym is ∙ none)

module _ (before after : List Spot) (place : Position) (there : (front_of before).1 ≡ place) (moved : after ≡ behind_front before) where
  pub onward_minus : (state : Expression) → (front_of before).0 ≡ symbol sign.Minus → Onward (operand state) (operand (negating state place)) before after
  onward_minus state is =
      onward_one (operand state) (operand (negating state place)) (at place (symbol sign.Minus)) before after (known before _ is (λ e. cc)) moved
      (ap (λ lexeme. look (operand state) lexeme (front_of before).1) is ∙ ap (look (operand state) (symbol sign.Minus)) there) (is, there) (negating_pieces state place)
      (clear_negating state place) (λ alone. same_outermost _ state.level state.outer refl ∙ alone)

  pub onward_bracket : (state : Expression) → (front_of before).0 ≡ symbol sign.OpenRound → Onward (operand state) (operand (bracketing state place)) before after
  onward_bracket state is =
      onward_one (operand state) (operand (bracketing state place)) (at place (symbol sign.OpenRound)) before after (known before _ is (λ e. cc)) moved
      (ap (λ lexeme. look (operand state) lexeme (front_of before).1) is ∙ ap (look (operand state) (symbol sign.OpenRound)) there) (is, there) (bracketing_pieces state place)
      (clear_bracketing state place) (λ alone. alone)

  pub onward_number : (state : Expression) (value : ℕ) → (front_of before).0 ≡ number value
      → Onward (operand state) (behind_operand (without_product state) (product_behind state (literal place value))) before after
  onward_number state value is =
      onward_one (operand state) (behind_operand (without_product state) (product_behind state (literal place value))) (at place (number value)) before after (known before _ is (λ e. cc)) moved
      (ap (λ lexeme. look (operand state) lexeme (front_of before).1) is ∙ ap (look (operand state) (number value)) there) (is, there) (operand_pieces state (literal place value))
      (λ clear. clear_operand state (literal place value) (λ e. refl) clear) (λ alone. same_outermost _ state.level state.outer refl ∙ alone)

  pub onward_name : (state : Expression) (text : List ℕ) → (front_of before).0 ≡ name text
      → Onward (operand state) (behind_operand (without_product (passing state (name_limits (text, place)))) (product_behind state (variable (text, place)))) before after
  onward_name state text is =
      onward_one (operand state) (behind_operand (without_product (passing state (name_limits (text, place)))) (product_behind state (variable (text, place)))) (at place (name text)) before after
      (known before _ is (λ e. cc)) moved
      (ap (λ lexeme. look (operand state) lexeme (front_of before).1) is ∙ ap (look (operand state) (name text)) there) (is, there) (operand_pieces state (variable (text, place)))
      (λ clear. clear_operand (passing state (name_limits (text, place))) (variable (text, place)) (λ e. (not_earlier state.passed (name_limits (text, place)) e).1)
      (λ e. clear (not_earlier state.passed (name_limits (text, place)) e).0)) (λ alone. same_outermost _ state.level state.outer refl ∙ alone)

  -- ---- after an operand

  pub onward_product : (state : Expression) (prod : Prod) (it : Symbol) (how : Multiplication) → state.level.product ≡ None → state.level.negations ≡ [] → (front_of before).0 ≡ symbol it
      → joint (symbol it) ≡ by_product how → it ≡ multiplication_sign how → Onward (behind_operand state prod) (operand (awaiting_product state prod how)) before after
  onward_product state prod it how none no_minus is joins signed =
      onward_one (behind_operand state prod) (operand (awaiting_product state prod how)) (plain (symbol (multiplication_sign how))) before after (known before _ is (λ e. cc)) moved
      (ap (λ lexeme. look_behind state prod (joint lexeme)) is ∙ ap (look_behind state prod) joins) (is ∙ ap symbol signed) (awaiting_product_pieces state prod how none no_minus)
      (clear_awaiting_product state prod how none) (λ alone. same_outermost _ state.level state.outer refl ∙ alone)

  pub onward_sum : (state : Expression) (prod : Prod) (it : Symbol) (how : Addition) → state.level.product ≡ None → state.level.negations ≡ [] → (front_of before).0 ≡ symbol it
      → joint (symbol it) ≡ by_sum how → it ≡ addition_sign how → Onward (behind_operand state prod) (operand (awaiting_sum state prod how)) before after
  onward_sum state prod it how none no_minus is joins signed =
      onward_one (behind_operand state prod) (operand (awaiting_sum state prod how)) (plain (symbol (addition_sign how))) before after (known before _ is (λ e. cc)) moved
      (ap (λ lexeme. look_behind state prod (joint lexeme)) is ∙ ap (look_behind state prod) joins) (is ∙ ap symbol signed) (awaiting_sum_pieces state prod how none no_minus)
      (clear_awaiting_sum state prod how none) (λ alone. same_outermost _ state.level state.outer refl ∙ alone)

  pub onward_comparison : (state : Expression) (prod : Prod) (it : Symbol) (how : Comparison) → state.level.comparing ≡ possible → state.level.product ≡ None → state.level.negations ≡ []
      → (front_of before).0 ≡ symbol it → joint (symbol it) ≡ by_comparison how → it ≡ comparison_sign how
      → Onward (behind_operand state prod) (operand (awaiting_comparison state prod how)) before after
  onward_comparison state prod it how may none no_minus is joins signed =
      onward_one (behind_operand state prod) (operand (awaiting_comparison state prod how)) (plain (symbol (comparison_sign how))) before after (known before _ is (λ e. cc)) moved
      (ap (λ lexeme. look_behind state prod (joint lexeme)) is ∙ ap (look_behind state prod) joins ∙ ap (λ comparing. look_comparison state comparing prod how) may) (is ∙ ap symbol signed)
      (awaiting_comparison_pieces state prod how may none no_minus) (clear_awaiting_comparison state prod how may none) (alone_comparison state prod how may)

  pub onward_close : (state : Expression) (prod : Prod) (level : Level) (position : Position) (outer : List (Level × Position)) → state.outer ≡ (level, position) ∷ outer
      → state.level.product ≡ None → state.level.negations ≡ [] → (front_of before).0 ≡ symbol sign.CloseRound
      → Onward (behind_operand state prod) (behind_operand (without_product (closed state level outer)) (product_behind (closed state level outer) (bracketed position (level_expr state.level prod)))) before after
  onward_close state prod level position outer around none no_minus is =
      onward_one (behind_operand state prod) (behind_operand (without_product (closed state level outer)) (product_behind (closed state level outer) (bracketed position (level_expr state.level prod))))
      (plain (symbol sign.CloseRound)) before after (known before _ is (λ e. cc)) moved
      (ap (λ lexeme. look_behind state prod (joint lexeme)) is ∙ ap (λ levels. look_close state levels prod) around) is
      (operand_pieces (closed state level outer) (bracketed position (level_expr state.level prod)) ∙ closing_pieces state level position outer prod around none no_minus)
      (clear_closing state level position outer prod around none) (λ alone. same_outermost _ level outer refl ∙ ap (outermost state.level) (sym around) ∙ alone)
