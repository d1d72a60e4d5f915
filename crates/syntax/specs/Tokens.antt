-- The tokens of a text, read longest first.
use Rattle.std.specs.Prelude.{◌≡◌, ◌≢◌, ◌⊎◌, ◌≤◌, ◌<◌, ◌+◌, ◌-◌, ◌^◌, ⊤, ℕ, Bool, map, true, false, List, [], ◌∷◌, ◌++◌, length, codes, ◌||◌, ◌==◌}
use Rattle.std.specs.Int.{is_in_range, cast_unsigned, w64}
use Rattle.std.specs.List.{AllByRecursion}
use Rattle.std.specs.Str.Parse.{digits_value}
use Rattle.syntax.specs.declared.token.Word.{Word}
use Rattle.syntax.specs.declared.token.Word.TheVariants as reserved
use Rattle.syntax.specs.declared.token.Symbol.{Symbol}
use Rattle.syntax.specs.declared.token.Symbol.TheVariants.{OpenBracket, CloseBracket, OpenRound, CloseRound, Less, Greater, OpenBrace, CloseBrace, Colon, Semicolon, Comma, Assign, Plus, Minus, Star, Slash, Percent, DoubleColon, Arrow, DoubleDot, Equal, NotEqual, LessOrEqual, GreaterOrEqual}
use Rattle.syntax.specs.declared.token.Token.{Token}
use Rattle.syntax.specs.declared.token.Token.TheVariants as token
use Rattle.syntax.specs.declared.token.Placed.{Placed}

-- ---- characters

-- space, tab, carriage return and line feed
abbrev pub is_blank : ℕ → Bool
is_blank byte = ((byte == 32) || (byte == 9)) || ((byte == 13) || (byte == 10))

abbrev pub is_digit : ℕ → Bool
is_digit byte = is_in_range 48 57 byte

-- a letter or `_`
abbrev pub is_letter : ℕ → Bool
is_letter byte = (is_in_range 65 90 byte || is_in_range 97 122 byte) || (byte == 95)

abbrev pub AreBlank : List ℕ → Type 0
AreBlank bytes = AllByRecursion (λ byte. is_blank byte ≡ true) bytes

abbrev pub AreDigits : List ℕ → Type 0
AreDigits bytes = AllByRecursion (λ byte. is_digit byte ≡ true) bytes

-- letters and digits, the first of them a letter
abbrev pub IsWordText : List ℕ → Type 0
IsWordText [] = ⊥
IsWordText (first ∷ rest) = (is_letter first ≡ true) × AllByRecursion (λ byte. (is_letter byte || is_digit byte) ≡ true) rest

-- these bytes begin with no such character
abbrev pub BeginsWithout : (ℕ → Bool) → List ℕ → Type 0
BeginsWithout is [] = ⊤
BeginsWithout is (first ∷ rest) = is first ≡ false

-- ---- words and signs

abbrev pub word_text : Word → List ℕ
word_text reserved.Env = codes "env"
word_text reserved.Step = codes "step"
word_text reserved.Var = codes "var"
word_text reserved.Read = codes "read"
word_text reserved.Write = codes "write"
word_text reserved.Get = codes "get"
word_text reserved.Put = codes "put"
word_text reserved.If = codes "if"
word_text reserved.Else = codes "else"
word_text reserved.For = codes "for"
word_text reserved.In = codes "in"

abbrev pub symbol_text : Symbol → List ℕ
symbol_text OpenBracket = codes "["
symbol_text CloseBracket = codes "]"
symbol_text OpenRound = codes "("
symbol_text CloseRound = codes ")"
symbol_text Less = codes "<"
symbol_text Greater = codes ">"
symbol_text OpenBrace = codes "{"
symbol_text CloseBrace = codes "}"
symbol_text Colon = codes ":"
symbol_text Semicolon = codes ";"
symbol_text Comma = codes ","
symbol_text Assign = codes "="
symbol_text Plus = codes "+"
symbol_text Minus = codes "-"
symbol_text Star = codes "*"
symbol_text Slash = codes "/"
symbol_text Percent = codes "%"
symbol_text DoubleColon = codes "::"
symbol_text Arrow = codes "->"
symbol_text DoubleDot = codes ".."
symbol_text Equal = codes "=="
symbol_text NotEqual = codes "!="
symbol_text LessOrEqual = codes "<="
symbol_text GreaterOrEqual = codes ">="

-- these bytes begin with those
abbrev pub Begins : List ℕ → List ℕ → Type 0
Begins front bytes = (rest : List ℕ) × (bytes ≡ front ++ rest)

-- ---- tokens

-- a token as a text has it: a name that is not reserved, a number, a reserved word, a sign, or what is none of these
pub data Lexeme : Type 0 where
  name : List ℕ → Lexeme
  number : ℕ → Lexeme
  word : Word → Lexeme
  symbol : Symbol → Lexeme
  unknown : Lexeme

-- a number below 0, read as 64 bits without a sign, is above the greatest number of a text, so no text has it
abbrev pub lexeme_of : Token → Lexeme
lexeme_of (token.Name text) = name text.now
lexeme_of (token.Number value) = number (cast_unsigned w64 value)
lexeme_of (token.Word reserved) = word reserved
lexeme_of (token.Symbol sign) = symbol sign
lexeme_of token.Unknown = unknown

-- a token and its position
abbrev pub Spot : Type 0
Spot = Lexeme × ℕ

abbrev pub spots_of : List Placed → List Spot
spots_of tokens = map (λ placed. (lexeme_of placed.token, placed.place)) tokens

-- the greatest number of a text
abbrev pub GREATEST : ℕ
GREATEST = 2 ^ 63 - 1

-- digits, at least one, with no further digit after them, and their value
abbrev pub IsNumeral : List ℕ → ℕ → List ℕ → Type 0
IsNumeral digits value rest = (digits ≢ []) × AreDigits digits × BeginsWithout is_digit rest × (digits_value 10 digits ≡ value)

-- letters and digits, with no further letter or digit after them
abbrev pub IsWhole : List ℕ → List ℕ → Type 0
IsWhole text rest = IsWordText text × BeginsWithout (λ byte. is_letter byte || is_digit byte) rest

-- a number that is too large
abbrev pub IsTooLarge : List ℕ → Type 0
IsTooLarge bytes = (digits rest : List ℕ) × (value : ℕ) × (bytes ≡ digits ++ rest) × IsNumeral digits value rest × (GREATEST < value)

-- a character with which no token begins
abbrev pub BeginsNone : List ℕ → Type 0
BeginsNone [] = ⊥
BeginsNone (first ∷ rest) = (is_letter first ≡ false) × (is_digit first ≡ false) × (is_blank first ≡ false) × ((symbol : Symbol) → Begins (symbol_text symbol) (first ∷ rest) → ⊥)

-- the bytes begin with this token, `rest` follows it, and no longer token fits
abbrev pub Stands : Lexeme → List ℕ → List ℕ → Type 0
Stands (name text) bytes rest = (bytes ≡ text ++ rest) × IsWhole text rest × ((kept : Word) → text ≢ word_text kept)
Stands (word kept) bytes rest = (bytes ≡ word_text kept ++ rest) × IsWhole (word_text kept) rest
Stands (number value) bytes rest = (digits : List ℕ) × (bytes ≡ digits ++ rest) × IsNumeral digits value rest × (value ≤ GREATEST)
Stands (symbol sign) bytes rest = (bytes ≡ symbol_text sign ++ rest)
    × ((other : Symbol) → Begins (symbol_text other) bytes → length (symbol_text other) ≤ length (symbol_text sign))
Stands unknown bytes rest = (rest ≡ []) × (IsTooLarge bytes ⊎ BeginsNone bytes)

-- the bytes from this position on are these tokens, with blanks between them; after an unknown one nothing more is read
abbrev pub AreTokens : ℕ → List ℕ → List Spot → Type 0
AreTokens at bytes [] = AreBlank bytes
AreTokens at bytes (spot ∷ more) = (blanks here rest : List ℕ) × (bytes ≡ blanks ++ here) × AreBlank blanks × (spot.1 ≡ at + length blanks)
    × Stands spot.0 here rest × AreTokens (spot.1 + (length here - length rest)) rest more

-- a text has at most one list of tokens
abbrev pub TokensOnce : Type 0
TokensOnce = (bytes : List ℕ) (one two : List Spot) → AreTokens 0 bytes one → AreTokens 0 bytes two → one ≡ two

-- four tokens with their positions; and a number that is too large ends a text
abbrev pub TokensExample : Type 0
TokensExample = AreTokens 0 (codes "[x :12") ((symbol OpenBracket, 0) ∷ (name (codes "x"), 1) ∷ (symbol Colon, 3) ∷ (number 12, 4) ∷ [])
    × AreTokens 0 (codes "a 9223372036854775808 b") ((name (codes "a"), 0) ∷ (unknown, 2) ∷ [])
