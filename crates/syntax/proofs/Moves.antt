-- One step of the machine, one part of the parser after another, and the tokens of pieces in a row.
use Rattle.std.proofs.Common.{◌≡◌, ◌≢◌, ℕ, zero, suc, List, [], ◌∷◌, ◌++◌, refl, ap, append_assoc, drop, arith, rules, ◌≤◌, length, sym, subst}
use Rattle.std.proofs.lemmas.List.{append-nil}
use Rattle.syntax.specs.declared.stop.Stop.{Stop}
use Rattle.syntax.specs.declared.token.Placed.{Placed}
use Rattle.syntax.specs.Tokens.{Spot, unknown, spots_of, Lexeme}
use Rattle.syntax.specs.Grammar.{Position, GraphText}
use Rattle.syntax.specs.Spelled.{Piece, IsPiece, plain, at, ArePieces}
use Rattle.syntax.specs.GraphTexts.{Derives, graph_pieces}
use Rattle.syntax.specs.Expected.{Expected, taken, left_out, wrong, passed, look, next, met, ended, followed, syntax, too_large, run}
use Rattle.syntax.specs.Parsed.{Spells, Goes, Reads, Stops}
use Rattle.syntax.specs.Front.{front_of, behind_front}

-- it is left out
pub skipped : (first : Expected) (behind : List Expected) (spots : List Spot) → look first (front_of spots).0 (front_of spots).1 ≡ left_out
    → run (first ∷ behind) spots ≡ run behind spots
skipped first behind spots e = grind arith

-- the token is at fault
pub refused : (first : Expected) (behind : List Expected) (spots : List Spot) → look first (front_of spots).0 (front_of spots).1 ≡ wrong
    → run (first ∷ behind) spots ≡ syntax spots
refused first behind spots e = grind arith

-- a limit is passed
pub limited : (first : Expected) (behind : List Expected) (spots : List Spot) (place : Position) → look first (front_of spots).0 (front_of spots).1 ≡ passed place
    → run (first ∷ behind) spots ≡ too_large place
limited first behind [] place e = ap (λ move. ended (met move behind (next behind (unknown, 0)))) e
limited first behind (spot ∷ spots) place e = ap (λ move. followed (met move behind (next behind spot)) (spot ∷ spots) (λ after. run after spots)) e

-- ---- pieces

pub spelled_on : (one two : List Piece) (before middle after : List Spot) → Spells one before middle → Spells two middle after → Spells (one ++ two) before after
spelled_on [] two before middle after first second = grind arith
spelled_on (piece ∷ one) two before middle after first second = grind (arith, spelled_on one)

-- ---- one part after another

pub goes_on : (expected more others last : List Expected) (before middle after : List Spot) → Goes expected more before middle → Goes (more ++ others) last middle after
    → Goes (expected ++ others) last before after
goes_on expected more others last before middle after first second = grind (arith, append_assoc)

pub reads_on : {expected more last : List Expected} (others : List Expected) {one two : List Piece} {before middle after : List Spot}
    → Reads expected more one before middle → Reads (more ++ others) last two middle after → Reads (expected ++ others) last (one ++ two) before after
reads_on others first second = search (rules, goes_on, spelled_on)

-- where nothing more is expected of the first part
infixl 6 ◌⨟◌
pub ◌⨟◌ : {expected rest last : List Expected} {one two : List Piece} {before middle after : List Spot} → Reads expected [] one before middle → Reads rest last two middle after
    → Reads (expected ++ rest) last (one ++ two) before after
◌⨟◌ {expected} {rest} {last} {one} {two} {before} {middle} {after} first second = reads_on rest first second

pub stops_on : (expected more others : List Expected) (before middle after : List Spot) (cause : Stop) → Goes expected more before middle → Stops (more ++ others) middle after cause
    → Stops (expected ++ others) before after cause
stops_on expected more others before middle after cause first second = grind (arith, append_assoc)

pub stops_behind : {expected more : List Expected} {pieces : List Piece} {before middle : List Spot} (others : List Expected) (after : List Spot) (cause : Stop)
    → Reads expected more pieces before middle → Stops (more ++ others) middle after cause → Stops (expected ++ others) before after cause
stops_behind {expected} {more} {pieces} {before} {middle} others after cause first second = stops_on expected more others before middle after cause first.goes second

-- ---- the cursor

pub passed_one : (n : ℕ) (tokens : List Placed) → spots_of (drop (suc n) tokens) ≡ behind_front (spots_of (drop n tokens))
passed_one zero tokens = grind arith
passed_one (suc n) [] = refl
passed_one (suc n) (token ∷ tokens) = passed_one n tokens

-- one token, and what may come in its place
pub taken_one : (first : Expected) (more : List Expected) (piece : Piece) (before after : List Spot) → (front_of before).0 ≢ unknown → after ≡ behind_front before
    → look first (front_of before).0 (front_of before).1 ≡ taken more → IsPiece piece (front_of before) → Reads (first ∷ []) more (piece ∷ []) before after
taken_one first more piece before after there moved looks is = grind arith

-- ---- the tokens of pieces in a row

-- ---- pieces in a row

pub record Halves (a b : List Piece) (all later : List Spot) : Type 0 where
  pub middle : List Spot
  pub first : Spells a all middle
  pub second : Spells b middle later

pub halves : (a b : List Piece) (all later : List Spot) → Spells (a ++ b) all later → Halves a b all later
halves [] b all later spells = record { middle = all; first = refl; second = spells }
halves (piece ∷ a) b [] later spells = absurd spells
halves (piece ∷ a) b (spot ∷ all) later spells =
    let it = halves a b all later spells.1 in
    record { middle = it.middle; first = (spells.0, it.first); second = it.second }

pub shorter : (pieces : List Piece) (all later : List Spot) → Spells pieces all later → length later ≤ length all
shorter [] all later spells = omega (arith, ap length spells)
shorter (piece ∷ pieces) all later spells = grind (arith, shorter pieces)

-- ---- the first token

abbrev pub lexeme_in : Piece → Lexeme
lexeme_in (plain lexeme) = lexeme
lexeme_in (at position lexeme) = lexeme

pub front_is : (piece : Piece) (pieces : List Piece) (all later : List Spot) → Spells (piece ∷ pieces) all later → (front_of all).0 ≡ lexeme_in piece
front_is piece pieces all later spells = grind arith

-- ---- whole lists of tokens

pub spelled : (pieces : List Piece) (tokens later : List Spot) → ArePieces pieces tokens → Spells pieces (tokens ++ later) later
spelled [] tokens later are = grind arith
spelled (piece ∷ pieces) tokens later are = grind (arith, spelled pieces)

-- the tokens of a whole graph text
pub graph_spelled : (graph : GraphText) (spots : List Spot) → Derives graph spots → Spells (graph_pieces graph ++ []) spots []
graph_spelled graph spots derives =
    subst (λ (tokens : List Spot). Spells (graph_pieces graph ++ []) tokens []) (append-nil spots)
    (subst (λ (pieces : List Piece). Spells pieces (spots ++ []) []) (sym (append-nil (graph_pieces graph))) (spelled (graph_pieces graph) spots [] derives))
