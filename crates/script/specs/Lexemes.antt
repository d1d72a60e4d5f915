-- The lexemes of the program's tokens.
use Rattle.std.specs.Prelude.{⊤, List, map}
use Rattle.std.specs.List.{AllByRecursion}
use Rattle.std.specs.Str.Parse.{IsNumeral, signed_digits_value, without_leading_sign}
use Rattle.script.specs.Tokens.{Lexeme, word, number, sign, unknown}
use Rattle.script.specs.declared.cursor.Cursor.{Cursor}
use Rattle.script.specs.declared.token.Token.{Token}
use Rattle.script.specs.declared.token.Token.TheVariants as token

abbrev pub lexeme_of : Token → Lexeme
lexeme_of (token.Word text) = word text.now
lexeme_of (token.Number text) = number (signed_digits_value 10 text.now)
lexeme_of (token.Sign byte) = sign byte
lexeme_of token.Unknown = unknown

abbrev pub lexemes_of : List Token → List Lexeme
lexemes_of tokens = map lexeme_of tokens

-- the text of a number is digits, with or without a sign in front
abbrev pub IsSound : Token → Type 0
IsSound (token.Word text) = ⊤
IsSound (token.Number text) = IsNumeral 10 (without_leading_sign text.now)
IsSound (token.Sign byte) = ⊤
IsSound token.Unknown = ⊤

abbrev pub AreSound : List Token → Type 0
AreSound tokens = AllByRecursion IsSound tokens

-- the tokens that are left
abbrev pub left : Cursor → List Lexeme
left cursor = lexemes_of cursor.tokens.now

abbrev pub IsSoundCursor : Cursor → Type 0
IsSoundCursor cursor = AreSound cursor.tokens.now
