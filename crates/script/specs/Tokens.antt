-- The tokens of a line; the longest possible token is read. Words, and the words that are never names, are as in graph texts.
use Rattle.std.specs.Prelude.{◌≡◌, ◌⊎◌, ℕ, ℤ, Bool, true, false, ◌||◌, ◌==◌, List, [], ◌∷◌, ◌++◌, codes, pos, neg_ℤ}
use Rattle.std.specs.List.{AllByRecursion}
use Rattle.syntax.specs.Tokens.{is_letter, is_digit, IsNumeral, IsWhole}

-- a token: letters and digits, beginning with a letter (`_` is a letter); an integer of any size; a sign; or something else
pub data Lexeme : Type 0 where
  word : List ℕ → Lexeme
  number : ℤ → Lexeme
  sign : ℕ → Lexeme
  unknown : Lexeme

-- a space, the only byte that may be between tokens
abbrev pub is_space : ℕ → Bool
is_space byte = byte == 32

abbrev pub AreSpaces : List ℕ → Type 0
AreSpaces bytes = AllByRecursion (λ byte. is_space byte ≡ true) bytes

-- one of the signs `[` (91), `]` (93), `<` (60), `>` (62), `:` (58), `,` (44) and `=` (61)
abbrev pub is_sign : ℕ → Bool
is_sign byte = (((byte == 91) || (byte == 93)) || ((byte == 60) || (byte == 62))) || (((byte == 58) || (byte == 44)) || (byte == 61))

-- no letter, no digit and no sign
abbrev pub IsOther : ℕ → Type 0
IsOther byte = (is_letter byte ≡ false) × (is_digit byte ≡ false) × (is_sign byte ≡ false)

-- Before the rest there is a decimal integer with this value: a hyphen (45) or none, then at least one digit. The rest begins with no digit.
abbrev pub IsInteger : List ℕ → ℤ → List ℕ → Type 0
IsInteger bytes value rest = (digits : List ℕ) × (size : ℕ) × IsNumeral digits size rest
    × (((bytes ≡ digits ++ rest) × (value ≡ pos size)) ⊎ ((bytes ≡ 45 ∷ digits ++ rest) × (value ≡ neg_ℤ (pos size))))

-- a hyphen (45) with no digit after it
abbrev pub IsLoneHyphen : List ℕ → Type 0
IsLoneHyphen [] = ⊥
IsLoneHyphen (first ∷ []) = first ≡ 45
IsLoneHyphen (first ∷ second ∷ rest) = (first ≡ 45) × (is_digit second ≡ false)

-- a byte that begins no token
abbrev pub BeginsNone : List ℕ → Type 0
BeginsNone [] = ⊥
BeginsNone (first ∷ rest) = (is_letter first ≡ false) × (is_digit first ≡ false) × (is_space first ≡ false) × (is_sign first ≡ false) × ((first == 45) ≡ false)

-- the token comes before the rest, and no longer token fits
abbrev pub Stands : Lexeme → List ℕ → List ℕ → Type 0
Stands (word text) bytes rest = (bytes ≡ text ++ rest) × IsWhole text rest
Stands (number value) bytes rest = IsInteger bytes value rest
Stands (sign byte) bytes rest = (bytes ≡ byte ∷ rest) × (is_sign byte ≡ true)
Stands unknown bytes rest = (rest ≡ []) × (BeginsNone bytes ⊎ IsLoneHyphen bytes)

-- these bytes are these tokens, with any spaces between them; after an unknown token nothing more is read
abbrev pub AreTokens : List ℕ → List Lexeme → Type 0
AreTokens bytes [] = AreSpaces bytes
AreTokens bytes (token ∷ more) = (spaces here rest : List ℕ) × (bytes ≡ spaces ++ here) × AreSpaces spaces × Stands token here rest × AreTokens rest more

-- a line has at most one list of tokens
abbrev pub TokensOnce : Type 0
TokensOnce = (bytes : List ℕ) (one two : List Lexeme) → AreTokens bytes one → AreTokens bytes two → one ≡ two

-- eight tokens, of which the last is negative; a number may be of any size; and a tab is not a space
abbrev pub TokensExample : Type 0
TokensExample =
    AreTokens (codes "put[a :1 ]= -20 ") (word (codes "put") ∷ sign 91 ∷ word (codes "a") ∷ sign 58 ∷ number (pos 1) ∷ sign 93 ∷ sign 61 ∷ number (neg_ℤ (pos 20)) ∷ [])
    × AreTokens (codes "9223372036854775808") (number (pos 9223372036854775808) ∷ [])
    × AreTokens (9 ∷ codes "run") (unknown ∷ [])
