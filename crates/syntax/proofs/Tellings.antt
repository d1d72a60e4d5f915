-- The machine, with a choice of which limit of a whole expression it reports; and expressions of which nothing else is reported.
use Rattle.std.proofs.Common.{◌≡◌, false, List, [], ◌∷◌, Option, Some, None, refl, sym, ap, ◌∙◌, arith, ◌<◌, Bool, if◌then◌else◌}
use Rattle.std.specs.Prelude.{⊤}
use Rattle.syntax.specs.declared.limits.TheConstants.{MOST_DEPTH}
use Rattle.syntax.specs.Tokens.{Lexeme, unknown, Spot}
use Rattle.syntax.specs.Grammar.{Position, Prod, Unary, Multiplication, Addition, Comparison}
use Rattle.syntax.specs.Expected.{Level, Expected, whole, operand, behind_operand, Move, taken, left_out, wrong, passed, look, Next, on, nothing_left, met, next, Verdict, ended, followed, run}
use Rattle.syntax.specs.Expected.{Comparing, Expression, level_expr, sum_of, product_of, Joint, Head, look_operand, look_behind, look_end, look_close, look_comparison, within, accepted, syntax}
use Rattle.syntax.specs.Expected.{too_large}
use Rattle.syntax.specs.Limits.{expr_depth}
use Rattle.syntax.proofs.Behind.{is_expression}

-- what is reported sooner of a whole expression that passes both
pub data Sooner : Type 0 where
  its_depth : Sooner
  within_it : Sooner

pub data Telling : Type 0 where
  -- as the machine reports it
  as_told : Telling
  -- of a whole expression this limit sooner, and none of one that breaks off
  of_whole : Sooner → Telling

-- what comes in place of a limit at this place, where an expression breaks off
abbrev pub broken : Telling → Position → Move
broken as_told place = passed place
broken (of_whole sooner) place = wrong

-- where the expression is whole, with the first limit within it
abbrev pub chosen : Sooner → Option Position → Position → Move
chosen its_depth before place = passed place
chosen within_it None place = passed place
chosen within_it (Some other) place = passed other

-- after an operand: the expression is whole if it is within no bracket
abbrev pub whole_or_broken : Telling → List (Level × Position) → Option Position → Position → Move
whole_or_broken as_told outer before place = passed place
whole_or_broken (of_whole sooner) [] before place = chosen sooner before place
whole_or_broken (of_whole sooner) (around ∷ outer) before place = wrong

-- for whatever may come first
abbrev pub instead : Expected → Telling → Position → Move
instead (whole comparing) telling place = broken telling place
instead (operand state) telling place = broken telling place
instead (behind_operand state prod) telling place = whole_or_broken telling state.outer state.passed place
instead _ telling place = passed place

-- a move, with this in place of a limit
abbrev pub changed : (Position → Move) → Move → Move
changed change (taken more) = taken more
changed change left_out = left_out
changed change wrong = wrong
changed change (passed place) = change place

-- the machine that reports so
abbrev pub look_so : Telling → Expected → Lexeme → Position → Move
look_so telling first lexeme place = changed (instead first telling) (look first lexeme place)

abbrev pub next_so : Telling → List Expected → Spot → Next
next_so telling [] spot = nothing_left
next_so telling (first ∷ rest) spot = met (look_so telling first spot.0 spot.1) rest (next_so telling rest spot)

abbrev pub run_so : Telling → List Expected → List Spot → Verdict
run_so telling stack [] = ended (next_so telling stack (unknown, 0))
run_so telling stack (spot ∷ spots) = followed (next_so telling stack spot) (spot ∷ spots) (λ after. run_so telling after spots)

-- ---- as the machine reports it

same_move : (first : Expected) (move : Move) → changed (instead first as_told) move ≡ move
same_move first move = grind arith

same_next : (stack : List Expected) (spot : Spot) → next_so as_told stack spot ≡ next stack spot
same_next [] spot = refl
same_next (first ∷ rest) spot = grind (arith, same_move, same_next rest spot)

pub same_run : (spots : List Spot) (stack : List Expected) → run_so as_told stack spots ≡ run stack spots
same_run [] stack = grind (arith, same_next)
same_run (spot ∷ spots) stack = grind (arith, same_next, same_run spots)

pub as_the_machine : (one two : List Spot) (first second : List Expected) → run_so as_told first one ≡ run_so as_told second two → run first one ≡ run second two
as_the_machine one two first second same = sym (same_run one first) ∙ same ∙ same_run two second

-- ---- the same tokens are taken

pub next_on : (telling : Telling) (stack more : List Expected) (spot : Spot) → next stack spot ≡ on more → next_so telling stack spot ≡ on more
next_on telling [] more spot is = is
next_on telling (first ∷ rest) more spot is = grind (arith, next_on telling rest more spot)

pub run_on : (telling : Telling) (stack more : List Expected) (spot : Spot) (spots : List Spot) → next stack spot ≡ on more → run_so telling stack (spot ∷ spots) ≡ run_so telling more spots
run_on telling stack more spot spots is = ap (λ (it : Next). followed it (spot ∷ spots) (λ after. run_so telling after spots)) (next_on telling stack more spot is)

-- ---- where no expression is expected

pub plain_so : (telling : Telling) (first : Expected) (lexeme : Lexeme) (place : Position) → is_expression first ≡ false → look_so telling first lexeme place ≡ look first lexeme place
plain_so telling first lexeme place plain = grind arith

-- ---- what is lost

-- ---- expressions that are too deep

-- too deep, whatever operand comes to the outermost level
abbrev pub WaitsDeep : Level → List (Level × Position) → Type 0
WaitsDeep level [] = (unary : Unary) → MOST_DEPTH < expr_depth (level_expr level (product_of level.product unary))
WaitsDeep level (around ∷ outer) = WaitsDeep around.0 outer

-- too deep, if this product ends the innermost level
abbrev pub EndsDeep : Level → List (Level × Position) → Prod → Type 0
EndsDeep level [] prod = MOST_DEPTH < expr_depth (level_expr level prod)
EndsDeep level (around ∷ outer) prod = WaitsDeep around.0 outer

deep_negating : (level : Level) (outer : List (Level × Position)) (negations : List Position) → WaitsDeep level outer → WaitsDeep (record level { negations = negations }) outer
deep_negating level [] negations deep = deep
deep_negating level (around ∷ outer) negations deep = deep

deep_product : (level : Level) (outer : List (Level × Position)) (prod : Prod) (how : Multiplication) → EndsDeep level outer prod → WaitsDeep (record level { product = Some (prod, how) }) outer
deep_product level outer prod how deep = grind arith

deep_sum : (level : Level) (outer : List (Level × Position)) (prod : Prod) (how : Addition) → EndsDeep level outer prod → WaitsDeep (record level { sum = Some (sum_of level.sum prod, how) }) outer
deep_sum level outer prod how deep = grind arith

-- ---- what is lost

-- a limit at this place is reported once the expression is whole, sooner than another: its depth, or the first one within it
abbrev pub LostBy : Sooner → Position → Type 0 → Expression → Type 0
LostBy its_depth place deep state = deep × (state.first ≡ place)
LostBy within_it place deep state = state.passed ≡ Some place

abbrev pub Lost : Sooner → Position → Expected → Type 0
Lost sooner place (operand state) = LostBy sooner place (WaitsDeep state.level state.outer) state
Lost sooner place (behind_operand state prod) = LostBy sooner place (EndsDeep state.level state.outer prod) state
Lost sooner place _ = ⊥

lost_on : {one two : Type 0} (sooner : Sooner) (place : Position) (from to : Expression) → (one → two) → to.first ≡ from.first → (from.passed ≡ Some place → to.passed ≡ Some place) → LostBy sooner place one from
    → LostBy sooner place two to
lost_on sooner place from to deep first noted lost = grind arith

abbrev pub IsLost : Position → Expected → Type 0
IsLost place first = (sooner : Sooner) × Lost sooner place first

-- what comes of it at a token is lost too, or that limit is reported
abbrev LostStack : Sooner → Position → List Expected → Type 0
LostStack sooner place [] = ⊥
LostStack sooner place (first ∷ []) = Lost sooner place first
LostStack sooner place (first ∷ second ∷ more) = ⊥

abbrev LostMove : Sooner → Position → Move → Type 0
LostMove sooner place (taken more) = LostStack sooner place more
LostMove sooner place left_out = ⊥
LostMove sooner place wrong = ⊤
LostMove sooner place (passed other) = other ≡ place

lost_operand : (sooner : Sooner) (place : Position) (state : Expression) (at : Position) (it : Head) → Lost sooner place (operand state) → LostMove sooner place (changed (broken (of_whole sooner)) (look_operand state at it))
lost_operand sooner place state at it lost = grind (arith, deep_negating)

-- what is reported of a whole expression: `deep` if it is too deep, `before` is the first limit within it
abbrev told : Sooner → Position → Bool → Option Position → Position → Type 0
told sooner place deep before first =
    LostMove sooner place (changed (chosen sooner before) (within (if deep then first ∷ [] else []) (elim before [ None ↦ left_out | Some other ↦ passed other ])))

lost_end : (sooner : Sooner) (place : Position) (state : Expression) (outer : List (Level × Position)) (prod : Prod) → state.outer ≡ outer → Lost sooner place (behind_operand state prod)
    → LostMove sooner place (changed (whole_or_broken (of_whole sooner) outer state.passed) (look_end state outer prod))
lost_end sooner place state outer prod same lost = grind arith

lost_close : (sooner : Sooner) (place : Position) (state : Expression) (outer : List (Level × Position)) (prod : Prod) → state.outer ≡ outer → Lost sooner place (behind_operand state prod)
    → LostMove sooner place (changed (whole_or_broken (of_whole sooner) outer state.passed) (look_close state outer prod))
lost_close sooner place state outer prod same lost = grind arith

lost_comparison : (sooner : Sooner) (place : Position) (state : Expression) (comparing : Comparing) (prod : Prod) (how : Comparison) → state.level.comparing ≡ comparing → Lost sooner place (behind_operand state prod)
    → LostMove sooner place (changed (whole_or_broken (of_whole sooner) state.outer state.passed) (look_comparison state comparing prod how))
lost_comparison sooner place state comparing prod how same lost = grind arith

lost_behind : (sooner : Sooner) (place : Position) (state : Expression) (prod : Prod) (it : Joint) → Lost sooner place (behind_operand state prod)
    → LostMove sooner place (changed (whole_or_broken (of_whole sooner) state.outer state.passed) (look_behind state prod it))
lost_behind sooner place state prod it lost = grind (arith, deep_product, deep_sum, lost_close, lost_comparison, lost_end, lost_on)

lost_look : (sooner : Sooner) (place : Position) (first : Expected) (lexeme : Lexeme) (at : Position) → Lost sooner place first → LostMove sooner place (look_so (of_whole sooner) first lexeme at)
lost_look sooner place first lexeme at lost = grind (arith, lost_behind, lost_operand)

-- ---- nothing else is reported

-- the tokens are not accepted, and no limit is reported except at this place
abbrev pub TellsOnly : Position → Verdict → Type 0
TellsOnly place accepted = ⊥
TellsOnly place (syntax rest) = ⊤
TellsOnly place (too_large other) = other ≡ place

pub lost_tells : (spots : List Spot) (sooner : Sooner) (place : Position) (first : Expected) (rest : List Expected) → Lost sooner place first → TellsOnly place (run_so (of_whole sooner) (first ∷ rest) spots)
lost_tells [] sooner place first rest lost = grind (arith, lost_look)
lost_tells (spot ∷ spots) sooner place first rest lost = grind (arith, lost_look, lost_tells spots)
