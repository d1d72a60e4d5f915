-- What a part of the parser reads: the tokens before and after it, and where it stops.
use Rattle.std.specs.Prelude.{◌≡◌, ⊤, Bool, true, false, List, [], ◌∷◌, ◌++◌, drop}
use Rattle.steptree.specs.declared.step.Name.{Name}
use Rattle.syntax.specs.declared.cursor.Cursor.{Cursor}
use Rattle.syntax.specs.declared.stop.Stop.{Stop}
use Rattle.syntax.specs.declared.stop.Stop.TheVariants as stop
use Rattle.syntax.specs.declared.token.Symbol.{Symbol}
use Rattle.syntax.specs.declared.token.Word.{Word}
use Rattle.syntax.specs.Tokens.{Lexeme, symbol, word, Spot, spots_of}
use Rattle.syntax.specs.Grammar.{Position, Named}
use Rattle.syntax.specs.Spelled.{Piece, plain, named, IsPiece}
use Rattle.syntax.specs.Expected.{Expected, Verdict, syntax, too_large, run, Move, wrong, passed, look, look_if, look_if_word}

-- the tokens that are left
abbrev pub left : Cursor → List Spot
left cursor = spots_of (drop cursor.passed cursor.tokens.items)

abbrev pub named_of : Name → Named
named_of it = (it.text.now, it.place)

-- the tokens `before` are these pieces, and then the tokens `after`
abbrev pub Spells : List Piece → List Spot → List Spot → Type 0
Spells [] before after = before ≡ after
Spells (piece ∷ pieces) [] after = ⊥
Spells (piece ∷ pieces) (spot ∷ spots) after = IsPiece piece spot × Spells pieces spots after

-- expecting `expected` at `before` has the verdict of expecting `more` at `after`, whatever is expected after both
abbrev pub Goes : List Expected → List Expected → List Spot → List Spot → Type 0
Goes expected more before after = (behind : List Expected) → run (expected ++ behind) before ≡ run (more ++ behind) after

pub record Reads (expected more : List Expected) (pieces : List Piece) (before after : List Spot) : Type 0 where
  pub spells : Spells pieces before after
  pub goes : Goes expected more before after

-- this token was taken where it is expected
abbrev pub ReadsToken : Expected → Lexeme → List Spot → List Spot → Type 0
ReadsToken expected lexeme = Reads (expected ∷ []) [] (plain lexeme ∷ [])

-- this name was taken where one is expected
abbrev pub ReadsName : Expected → Name → List Spot → List Spot → Type 0
ReadsName expected name = Reads (expected ∷ []) [] (named (named_of name) ∷ [])

-- the verdict that fits this stop of the parser, with these tokens left; any verdict fits `NoMemory`
abbrev pub Tells : Stop → List Spot → Verdict → Type 0
Tells stop.NoMemory rest verdict = ⊤
Tells stop.Syntax rest verdict = verdict ≡ syntax rest
Tells (stop.TooLarge place) rest verdict = verdict ≡ too_large place

abbrev pub Stops : List Expected → List Spot → List Spot → Stop → Type 0
Stops expected before after cause = (behind : List Expected) → Tells cause after (run (expected ++ behind) before)

-- the parser stops as this move says: the token is wrong, or a limit is passed; no move is for memory that was refused
abbrev pub TellsMove : Stop → Move → Type 0
TellsMove stop.NoMemory move = ⊥
TellsMove stop.Syntax move = move ≡ wrong
TellsMove (stop.TooLarge place) move = move ≡ passed place

-- whether an optional sign is taken: if so, what follows it may come; if not, all that it would begin is left out
abbrev pub TakenIf : Symbol → Bool → List Spot → List Spot → Type 0
TakenIf sign true before after = (first : Expected) (more : List Expected) → ((lexeme : Lexeme) (place : Position) → look first lexeme place ≡ look_if sign lexeme more)
    → Reads (first ∷ []) more (plain (symbol sign) ∷ []) before after
TakenIf sign false before after = (after ≡ before) × ((first : Expected) (more : List Expected) → ((lexeme : Lexeme) (place : Position) → look first lexeme place ≡ look_if sign lexeme more)
    → Goes (first ∷ []) [] before after)

-- whether an optional reserved word is taken
abbrev pub TakenIfWord : Word → Bool → List Spot → List Spot → Type 0
TakenIfWord kept true before after = (first : Expected) (more : List Expected) → ((lexeme : Lexeme) (place : Position) → look first lexeme place ≡ look_if_word kept lexeme more)
    → Reads (first ∷ []) more (plain (word kept) ∷ []) before after
TakenIfWord kept false before after = (after ≡ before) × ((first : Expected) (more : List Expected) → ((lexeme : Lexeme) (place : Position) → look first lexeme place ≡ look_if_word kept lexeme more)
    → Goes (first ∷ []) [] before after)
