-- The tokens that the machine takes begin some graph text; only the first thing that may come can be an expression that has begun.
use Rattle.std.proofs.Common.{◌≡◌, ◌⊎◌, inl, inr, true, false, if◌then◌else◌, List, [], ◌∷◌, arith, ◌≢◌, ◌++◌, sym, ap, subst, ℕ, suc, codes, take, None, refl}
use Rattle.std.specs.Prelude.{⊤}
use Rattle.std.proofs.lemmas.List.{append-nil}
use Rattle.syntax.specs.declared.token.Symbol.TheVariants as sign
use Rattle.syntax.specs.Tokens.{Spot, unknown, Lexeme, number, symbol}
use Rattle.syntax.specs.Grammar.{Position, Named, Names, sum_alone, compared, Sum, prod_alone, Prod, unary_alone, literal, bracketed, no_sums, no_more, put_tag, GraphText}
use Rattle.syntax.specs.Expected.{Expected, Move, look, Next, on, met, next, nothing_left, at_fault, limit_passed, Comparing, never, possible, behind_left, Level, Expression}
use Rattle.syntax.specs.Expected.{level_expr, without_product, product_behind, closed, item, graph_expected, exactly, keyword, a_name, whole, operand, behind_operand, components, more_components}
use Rattle.syntax.specs.Expected.{statements, nested_brace, or_else, put_target, declarations, front, front_named, front_closed, component_name, behind_component, relations, reader, related, steps}
use Rattle.syntax.specs.Expected.{step_name, parameters, parameter, behind_parameter, variables, step_variable, behind_variable}
use Rattle.syntax.specs.Spelled.{Piece, IsPiece, plain, at, ArePieces}
use Rattle.syntax.specs.Reading.{CanGoOn}
use Rattle.syntax.proofs.Tellings.{IsLost}
use Rattle.syntax.proofs.Behind.{is_begun, chain, chain_rest, chain_on, fresh, fresh_rest}
use Rattle.syntax.proofs.Turns.{Turn, fits, Begins, takes, skips, fails, loses}
use Rattle.syntax.proofs.AllTurns.{turn}
use Rattle.syntax.proofs.Fillings.{◌▸◌, Filling, filling_pieces, Fillings, fillings_pieces, declares, closes, Whole, front_part, back_part, parts_pieces}
use Rattle.syntax.proofs.FilledExpressions.{operand_read, ends_here, closing_ends}

abbrev pub BegunInFront : List Expected → Type 0
BegunInFront stack = chain unknown stack ≡ true

-- ---- from one token to the next

met_so : (first : Expected) (rest after : List Expected) (spot : Spot) (move : Move) (without : Next) → Turn first spot move → BegunInFront (first ∷ rest) → (without ≡ on after → BegunInFront after) → met move rest without ≡ on after
    → BegunInFront after
met_so first rest after spot move without given only behind e = grind (arith, chain_on)

pub front_stays : (stack after : List Expected) (spot : Spot) → BegunInFront stack → next stack spot ≡ on after → BegunInFront after
front_stays [] after spot only is = grind arith
front_stays (first ∷ rest) after spot only is = met_so first rest after spot _ _ (turn first spot.0 spot.1) only (front_stays rest after spot (chain_rest unknown first rest only)) is

-- ---- what is lost

-- one of these is lost
abbrev pub LostAmong : Position → List Expected → Type 0
LostAmong place [] = ⊥
LostAmong place (first ∷ rest) = IsLost place first ⊎ LostAmong place rest

not_lost : (place : Position) (first : Expected) → (if is_begun first then false else true) ≡ true → IsLost place first → ⊥
not_lost place first none lost = grind arith

none_lost : (place : Position) (stack : List Expected) → fresh stack ≡ true → BegunInFront stack → LostAmong place stack → ⊥
none_lost place [] new only lost = lost
none_lost place (first ∷ rest) new only lost = grind (arith, not_lost, fresh_rest, chain_rest, none_lost place rest)

-- the first of these is lost
pub record LostFirst (place : Position) (stack : List Expected) : Type 0 where
  pub first : Expected
  pub rest : List Expected
  pub whole : stack ≡ first ∷ rest
  pub lost : IsLost place first

pub lost_first : (place : Position) (stack : List Expected) → BegunInFront stack → LostAmong place stack → LostFirst place stack
lost_first place stack only lost = grind (arith, none_lost)

-- ---- a token that is taken begins a filling of all that may come

-- a filling of all that may come begins with this token, and goes on with `rest`
pub record AllBegun (stack : List Expected) (spot : Spot) (rest : List Piece) : Type 0 where
  pub piece : Piece
  pub is : IsPiece piece spot
  pub fillings : Fillings stack
  pub spelled : fillings_pieces stack fillings ≡ piece ∷ rest

-- the same, whatever comes after the token, which is a known one
pub record AllBegins (stack : List Expected) (spot : Spot) : Type 0 where
  pub known : spot.0 ≢ unknown
  pub after : List Expected
  pub begun : (later : Fillings after) → AllBegun stack spot (fillings_pieces after later)

abbrev pub AllSound : List Expected → Spot → Next → Type 0
AllSound stack spot (on after) = (later : Fillings after) → AllBegun stack spot (fillings_pieces after later)
AllSound stack spot nothing_left = ⊤
AllSound stack spot at_fault = ⊤
AllSound stack spot (limit_passed place) = AllBegins stack spot ⊎ LostAmong place stack

known_one : (first : Expected) (lexeme : Lexeme) (more : List Expected) → fits first lexeme more ≡ true → lexeme ≢ unknown
known_one first lexeme more may is = grind arith

all_taken : (first : Expected) (rest more : List Expected) (spot : Spot) (made : Fillings more → Filling first) → ((later : Fillings more) → Begins spot (filling_pieces first (made later)) (fillings_pieces more later))
    → (later : Fillings (more ++ rest)) → AllBegun (first ∷ rest) spot (fillings_pieces (more ++ rest) later)
all_taken first rest more spot made begins later =
    let begun = begins (front_part more rest later) in
    record { piece = begun.0; is = begun.1; fillings = made (front_part more rest later) ▸ back_part more rest later; spelled = grind (arith, parts_pieces more rest later) }

left_out_first : (first : Expected) (rest : List Expected) (spot : Spot) (pieces : List Piece) (empty : Filling first) → filling_pieces first empty ≡ [] → AllBegun rest spot pieces → AllBegun (first ∷ rest) spot pieces
left_out_first first rest spot pieces empty none begun = record { piece = begun.piece; is = begun.is; fillings = empty ▸ begun.fillings; spelled = rw none begun.spelled }

skipped : (first : Expected) (rest : List Expected) (spot : Spot) (empty : Filling first) (without : Next) → filling_pieces first empty ≡ [] → AllSound rest spot without → AllSound (first ∷ rest) spot without
skipped first rest spot empty without none behind = grind (arith, left_out_first)

met_sound : (first : Expected) (rest : List Expected) (spot : Spot) (move : Move) (without : Next) → Turn first spot move → AllSound rest spot without → AllSound (first ∷ rest) spot (met move rest without)
met_sound first rest spot move without (takes [] more made is may begins) behind = rw is (all_taken first rest more spot made begins)
met_sound first rest spot move without (takes (place ∷ limits) more made is may begins) behind =
    rw is (inl (record { known = known_one first spot.0 more may; after = more ++ rest; begun = all_taken first rest more spot made begins }))
met_sound first rest spot move without (skips empty is none) behind = rw is (skipped first rest spot empty without none behind)
met_sound first rest spot move without (fails is) behind = rw is tt
met_sound first rest spot move without (loses place is lost) behind = rw is (inr (inl lost))

pub all_sound : (stack : List Expected) (spot : Spot) → AllSound stack spot (next stack spot)
all_sound [] spot = tt
all_sound (first ∷ rest) spot = met_sound first rest spot (look first spot.0 spot.1) (next rest spot) (turn first spot.0 spot.1) (all_sound rest spot)

-- ---- each thing has a filling

a_named : Named
a_named = (codes "x", 0)

some_names : Names
some_names = record { first = a_named; more = [] }

abbrev zero_alone : Sum
zero_alone = prod_alone (unary_alone (literal 0 0))

some_whole : (comparing : Comparing) → Whole comparing
some_whole never = zero_alone
some_whole possible = sum_alone zero_alone
some_whole (behind_left left how) = record { rest = at 0 (number 0) ∷ []; makes = record { expr = compared left how zero_alone; fits = tt; spelled = refl } }

-- all open brackets are closed
some_closing : (outer : List (Level × Position)) (state : Expression) (prod : Prod) → state.outer ≡ outer → Filling (behind_operand state prod)
some_closing [] state prod same = record { rest = []; makes = ends_here state prod same }
some_closing (around ∷ outer) state prod same =
    let inner = closed state around.0 outer in
    let more = some_closing outer (without_product inner) (product_behind inner (bracketed around.1 (level_expr state.level prod))) refl in
    record { rest = plain (symbol sign.CloseRound) ∷ (more.rest ++ []); makes = closing_ends state around.0 around.1 outer prod more.rest same more.makes }

some_operand : (state : Expression) → Filling (operand state)
some_operand state = operand_read state (some_closing state.outer (without_product state) (product_behind state (literal 0 0)) refl)

some_graph : GraphText
some_graph = record { declarations = []; relations = []; steps = [] }

some : (first : Expected) → Filling first
some (exactly it) = tt
some (keyword it) = tt
some a_name = a_named
some (whole comparing) = some_whole comparing
some (operand state) = some_operand state
some (behind_operand state prod) = some_closing state.outer state prod refl
some components = no_sums
some more_components = []
some (statements part around) = no_more
some (nested_brace around) = 0
some (or_else part around) = None
some put_target = put_tag (record { collection = a_named; components = no_sums })
some (declarations items tags) = some_graph
some (front kind items tags) = a_named ▸ closes (declares some_graph)
some (front_named kind items tags place) = closes (declares some_graph)
some (front_closed kind items tags place) = declares some_graph
some (component_name before) = some_names
some (behind_component before) = []
some relations = record { relations = []; steps = [] }
some reader = None
some related = item ▸ a_named
some (steps before) = []
some (step_name before) = a_named
some parameters = record { parameters = None; variables = None }
some (parameter before) = record { parameters = some_names; variables = None }
some (behind_parameter before) = record { parameters = []; variables = None }
some (variables before) = None
some (step_variable before) = some_names
some (behind_variable before) = []

some_all : (stack : List Expected) → Fillings stack
some_all [] = tt
some_all (first ∷ rest) = record { first = some first; rest = some_all rest }

-- ---- tokens

-- tokens that are these pieces
pub record Spots (pieces : List Piece) : Type 0 where
  pub spots : List Spot
  pub are : ArePieces pieces spots

some_spots : (pieces : List Piece) → Spots pieces
some_spots [] = record { spots = []; are = tt }
some_spots (plain lexeme ∷ pieces) = let more = some_spots pieces in record { spots = (lexeme, 0) ∷ more.spots; are = (refl, more.are) }
some_spots (at position lexeme ∷ pieces) = let more = some_spots pieces in record { spots = (lexeme, position) ∷ more.spots; are = ((refl, refl), more.are) }

-- some tokens that fill all that may come begin with the first `count` of these
pub record Before (stack : List Expected) (count : ℕ) (spots : List Spot) : Type 0 where
  pub fillings : Fillings stack
  pub others : List Spot
  pub are : ArePieces (fillings_pieces stack fillings) others
  pub same : take count others ≡ take count spots

pub before_none : (stack : List Expected) (spots : List Spot) → Before stack 0 spots
before_none stack spots =
    let fillings = some_all stack in
    let them = some_spots (fillings_pieces stack fillings) in
    record { fillings = fillings; others = them.spots; are = them.are; same = refl }

-- after one token that begins all
pub before_all : (stack after : List Expected) (spot : Spot) (spots : List Spot) (count : ℕ) → ((later : Fillings after) → AllBegun stack spot (fillings_pieces after later))
    → Before after count spots → Before stack (suc count) (spot ∷ spots)
before_all stack after spot spots count all later =
    let begun = all later.fillings in
    record {
      fillings = begun.fillings;
      others = spot ∷ later.others;
      are = subst (λ (pieces : List Piece). ArePieces pieces (spot ∷ later.others)) (sym begun.spelled) (begun.is, later.are);
      same = ap (λ (list : List Spot). spot ∷ list) later.same;
    }

-- after one that is taken
pub before_one : (stack after : List Expected) (spot : Spot) (spots : List Spot) (count : ℕ) → next stack spot ≡ on after → Before after count spots → Before stack (suc count) (spot ∷ spots)
before_one stack after spot spots count is later = before_all stack after spot spots count (subst (λ (it : Next). AllSound stack spot it) is (all_sound stack spot)) later

pub begins_graph : (count : ℕ) (spots : List Spot) → Before graph_expected count spots → CanGoOn spots count
begins_graph count spots before = grind (arith, append-nil)
