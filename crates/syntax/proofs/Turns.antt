-- What a token does with a thing that may come: the move of the machine, and what the fillings become.
use Rattle.std.proofs.Common.{◌≡◌, ◌==◌, ℕ, Bool, true, false, List, [], ◌∷◌, ◌++◌, Some, None, refl, sym, ap, append_assoc, rules, arith, if◌then◌else◌}
use Rattle.std.proofs.lemmas.List.{append-nil}
use Rattle.terms.specs.declared.key.TheConstants.{MAX_COMPONENTS}
use Rattle.syntax.specs.declared.token.Word.{Word}
use Rattle.syntax.specs.declared.token.Symbol.{Symbol}
use Rattle.syntax.specs.declared.token.Symbol.TheVariants as sign
use Rattle.syntax.specs.Tokens.{Lexeme, name, word, symbol, unknown, Spot}
use Rattle.syntax.specs.Grammar.{Position}
use Rattle.syntax.specs.Spelled.{Piece, plain, at, IsPiece, named}
use Rattle.syntax.specs.GraphTexts.{names_pieces}
use Rattle.syntax.specs.Limits.{name_limits, one_more}
use Rattle.syntax.specs.Expected.{Expected, exactly, keyword, Move, taken, left_out, wrong, passed, within, sign_number, word_number, is_taken, look, look_if, look_if_word, look_name}
use Rattle.syntax.specs.Expected.{step_name_limits, parameters, behind_parameter, behind_variable}
use Rattle.syntax.proofs.Signs.{same_number}
use Rattle.syntax.proofs.Tellings.{IsLost}
use Rattle.syntax.proofs.Fillings.{Filling, filling_pieces, Fillings, fillings_pieces, behind_parameters}
use Rattle.syntax.proofs.Behind.{class, is_expression, follows}

abbrev pub is_known : Lexeme → Bool
is_known unknown = false
is_known _ = true

-- a known token, and these may be put in the place of the thing
abbrev pub fits : Expected → Lexeme → List Expected → Bool
fits first lexeme more = if is_known lexeme then follows (is_expression first) (class first) more else false

-- pieces that begin with this token, and go on with `rest`
abbrev pub Begins : Spot → List Piece → List Piece → Type 0
Begins spot pieces rest = (piece : Piece) × IsPiece piece spot × (pieces ≡ piece ∷ rest)

-- A token is taken, with these limits, and what is made of the fillings of what is put in its place; or none is taken, and the
-- filling may be empty; or the token is wrong; or nothing else than a limit is reported of the expression here.
pub data Turn (first : Expected) (spot : Spot) (move : Move) : Type 0 where
  takes : (limits : List Position) (more : List Expected) (made : Fillings more → Filling first) → move ≡ within limits (taken more) → fits first spot.0 more ≡ true
      → ((later : Fillings more) → Begins spot (filling_pieces first (made later)) (fillings_pieces more later)) → Turn first spot move
  skips : (empty : Filling first) → move ≡ left_out → filling_pieces first empty ≡ [] → Turn first spot move
  fails : move ≡ wrong → Turn first spot move
  loses : (place : Position) → move ≡ passed place → IsLost place first → Turn first spot move

-- ---- signs and words

pub same_sign : (it other : Symbol) → (sign_number it == sign_number other) ≡ true → symbol other ≡ symbol it
same_sign it other same = ap symbol (sym (same_number it other (search (rules, same))))

pub same_word : (it other : Word) → (word_number it == word_number other) ≡ true → word other ≡ word it
same_word it other same = grind arith

abbrev pub turn_sign : (it other : Symbol) (place : Position) (same : Bool) → (sign_number it == sign_number other) ≡ same → Turn (exactly it) (symbol other, place) (is_taken same)
turn_sign it other place true same = takes [] [] (λ later. tt) refl refl (λ later. (plain (symbol it), same_sign it other same, refl))
turn_sign it other place false same = fails refl

abbrev pub turn_exactly : (it : Symbol) (lexeme : Lexeme) (place : Position) → Turn (exactly it) (lexeme, place) (look (exactly it) lexeme place)
turn_exactly it (symbol other) place = turn_sign it other place (sign_number it == sign_number other) refl
turn_exactly it _ place = fails refl

abbrev pub turn_word : (it other : Word) (place : Position) (same : Bool) → (word_number it == word_number other) ≡ same → Turn (keyword it) (word other, place) (is_taken same)
turn_word it other place true same = takes [] [] (λ later. tt) refl refl (λ later. (plain (word it), same_word it other same, refl))
turn_word it other place false same = fails refl

abbrev pub turn_keyword : (it : Word) (lexeme : Lexeme) (place : Position) → Turn (keyword it) (lexeme, place) (look (keyword it) lexeme place)
turn_keyword it (word other) place = turn_word it other place (word_number it == word_number other) refl
turn_keyword it _ place = fails refl

-- ---- what may be left out

module _ (first : Expected) (more : List Expected) (place : Position) (empty : Filling first) (made : Fillings more → Filling first) (none : filling_pieces first empty ≡ [])
    (may : follows (is_expression first) (class first) more ≡ true) where
  abbrev pub if_sign : (it other : Symbol) (same : Bool) → (sign_number it == sign_number other) ≡ same → ((later : Fillings more) → filling_pieces first (made later) ≡ plain (symbol it) ∷ fillings_pieces more later)
      → Turn first (symbol other, place) (if same then taken more else left_out)
  if_sign it other true same some = takes [] more made refl may (λ later. (plain (symbol it), same_sign it other same, some later))
  if_sign it other false same some = skips empty refl none

  abbrev pub turn_if : (it : Symbol) (lexeme : Lexeme) → ((later : Fillings more) → filling_pieces first (made later) ≡ plain (symbol it) ∷ fillings_pieces more later) → Turn first (lexeme, place) (look_if it lexeme more)
  turn_if it (symbol other) some = if_sign it other (sign_number it == sign_number other) refl some
  turn_if it _ some = skips empty refl none

  abbrev pub if_word : (it other : Word) (same : Bool) → (word_number it == word_number other) ≡ same → ((later : Fillings more) → filling_pieces first (made later) ≡ plain (word it) ∷ fillings_pieces more later)
      → Turn first (word other, place) (if same then taken more else left_out)
  if_word it other true same some = takes [] more made refl may (λ later. (plain (word it), same_word it other same, some later))
  if_word it other false same some = skips empty refl none

  abbrev pub turn_if_word : (it : Word) (lexeme : Lexeme) → ((later : Fillings more) → filling_pieces first (made later) ≡ plain (word it) ∷ fillings_pieces more later)
      → Turn first (lexeme, place) (look_if_word it lexeme more)
  turn_if_word it (word other) some = if_word it other (word_number it == word_number other) refl some
  turn_if_word it _ some = skips empty refl none

-- ---- names

abbrev pub turn_name : (first : Expected) (limits : List Position) (more : List Expected) (lexeme : Lexeme) (place : Position) (made : List ℕ → Fillings more → Filling first)
    → follows (is_expression first) (class first) more ≡ true → ((text : List ℕ) (later : Fillings more) → filling_pieces first (made text later) ≡ named (text, place) ∷ fillings_pieces more later)
    → Turn first (lexeme, place) (look_name lexeme place limits more)
turn_name first limits more (name text) place made may some = takes (name_limits (text, place) ++ limits) more (made text) refl may (λ later. (at place (name text), (refl, refl), some text later))
turn_name first limits more _ place made may some = fails refl

abbrev pub turn_parameters : (lexeme : Lexeme) (place : Position) → Turn parameters (lexeme, place) (look parameters lexeme place)
turn_parameters (name text) place =
    turn_name parameters (one_more MAX_COMPONENTS 0 place ++ step_name_limits 0 place) (behind_parameter 1 ∷ []) (name text) place
    (λ text later. record { parameters = Some (record { first = (text, place); more = later.first.parameters }); variables = later.first.variables }) refl (λ text later. simp (append_assoc, append-nil))
turn_parameters (symbol sign.CloseRound) place =
    takes [] _ (λ later. record { parameters = None; variables = later.rest.first }) refl refl (λ later. (plain (symbol sign.CloseRound), refl, simp (append_assoc, append-nil)))
turn_parameters _ place = fails refl

abbrev pub turn_behind_parameter : (before : ℕ) (lexeme : Lexeme) (place : Position) → Turn (behind_parameter before) (lexeme, place) (look (behind_parameter before) lexeme place)
turn_behind_parameter before (symbol sign.Comma) place =
    takes [] _ (λ later. record { parameters = later.first.parameters.first ∷ later.first.parameters.more; variables = later.first.variables }) refl refl
    (λ later. (plain (symbol sign.Comma), refl, ap (λ (list : List Piece). plain (symbol sign.Comma) ∷ list) (sym (append-nil (names_pieces later.first.parameters ++ behind_parameters later.first.variables)))))
turn_behind_parameter before (symbol sign.CloseRound) place =
    takes [] _ (λ later. record { parameters = []; variables = later.rest.first }) refl refl (λ later. (plain (symbol sign.CloseRound), refl, simp (append_assoc, append-nil)))
turn_behind_parameter before _ place = fails refl

abbrev pub turn_behind_variable : (before : ℕ) (lexeme : Lexeme) (place : Position) → Turn (behind_variable before) (lexeme, place) (look (behind_variable before) lexeme place)
turn_behind_variable before (symbol sign.Comma) place =
    takes [] _ (λ later. later.first.first ∷ later.first.more) refl refl (λ later. (plain (symbol sign.Comma), refl, simp (append_assoc, append-nil)))
turn_behind_variable before (symbol sign.Semicolon) place = takes [] _ (λ later. []) refl refl (λ later. (plain (symbol sign.Semicolon), refl, refl))
turn_behind_variable before _ place = fails refl
