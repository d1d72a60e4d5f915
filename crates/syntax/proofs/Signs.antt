-- A word and a sign are determined by their numbers, and by their texts.
use Rattle.std.proofs.Common.{◌≡◌, Bool, false, nat_eq, List, [], ◌∷◌, IsTrue, rules, arith, ℕ, ◌+◌, ◌*◌, if◌then◌else◌, ◌==◌, Option, Some, None}
use Rattle.syntax.specs.declared.token.Symbol.{Symbol}
use Rattle.syntax.specs.declared.token.Symbol.TheVariants.{OpenBracket, CloseBracket, OpenRound, CloseRound, Less, Greater, OpenBrace, CloseBrace, Colon, Semicolon, Comma, Assign, Plus, Minus, Star}
use Rattle.syntax.specs.declared.token.Symbol.TheVariants.{Slash, Percent, DoubleColon, Arrow, DoubleDot, Equal, NotEqual, LessOrEqual, GreaterOrEqual}
use Rattle.syntax.specs.declared.token.Word.{Word}
use Rattle.syntax.specs.declared.token.Word.TheVariants as reserved
use Rattle.syntax.specs.Expected.{sign_number}
use Rattle.syntax.specs.Tokens.{word_text, symbol_text}

abbrev signs : List Symbol
signs = OpenBracket ∷ CloseBracket ∷ OpenRound ∷ CloseRound ∷ Less ∷ Greater ∷ OpenBrace ∷ CloseBrace ∷ Colon ∷ Semicolon ∷ Comma ∷ Assign ∷ Plus ∷ Minus ∷ Star ∷ Slash ∷ Percent ∷ DoubleColon ∷ Arrow ∷ DoubleDot ∷ Equal ∷ NotEqual ∷ LessOrEqual ∷ GreaterOrEqual ∷ []

pub same_number : (one two : Symbol) → sign_number one ≡ sign_number two → one ≡ two
same_number one two same = grind arith

not_true : (b : Bool) → (IsTrue b → ⊥) → b ≡ false
not_true b h = grind arith

pub other_number : (one two : Symbol) → (one ≡ two → ⊥) → nat_eq (sign_number one) (sign_number two) ≡ false
other_number one two other = not_true _ (λ same. other (same_number one two (search (rules, same))))

-- ---- texts

-- one number for the bytes of a text
abbrev number_of : List ℕ → ℕ
number_of [] = 0
number_of (first ∷ rest) = first + 256 * number_of rest

-- the first of a list with this text
abbrev with_text : {X : Type 0} → (X → List ℕ) → List X → ℕ → Option X
with_text text [] n = None
with_text text (x ∷ xs) n = if number_of (text x) == n then Some x else with_text text xs n

abbrev words : List Word
words = reserved.Env ∷ reserved.Step ∷ reserved.Var ∷ reserved.Read ∷ reserved.Write ∷ reserved.Get ∷ reserved.Put ∷ reserved.If ∷ reserved.Else ∷ reserved.For ∷ reserved.In ∷ []

abbrev symbols : List Symbol
symbols = OpenBracket ∷ CloseBracket ∷ OpenRound ∷ CloseRound ∷ Less ∷ Greater ∷ OpenBrace ∷ CloseBrace ∷ Colon ∷ Semicolon ∷ Comma ∷ Assign ∷ Plus ∷ Minus ∷ Star ∷ Slash ∷ Percent ∷ DoubleColon ∷ Arrow ∷ DoubleDot ∷ Equal ∷ NotEqual ∷ LessOrEqual ∷ GreaterOrEqual ∷ []

word_found : (kept : Word) → with_text word_text words (number_of (word_text kept)) ≡ Some kept
word_found kept = grind arith

pub same_word : (one two : Word) → word_text one ≡ word_text two → one ≡ two
same_word one two same = grind arith

pub same_symbol : (one two : Symbol) → symbol_text one ≡ symbol_text two → one ≡ two
same_symbol one two same = grind arith
