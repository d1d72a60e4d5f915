-- The bytes of a line that has a form are below 128.
use Rattle.std.proofs.Common.{◌≡◌, ℕ, ℤ, ◌<◌, true, ◌||◌, List, [], ◌∷◌, ◌++◌, inl, inr, sym, subst, arith, lit<}
use Rattle.std.specs.List.{AllByRecursion}
use Rattle.std.specs.Str.{IsAscii}
use Rattle.std.proofs.lemmas.Bool.Decides.{nat_tests}
use Rattle.std.proofs.lemmas.List.{append-nil}
use Rattle.syntax.specs.Tokens.{AreDigits, IsWordText, is_digit, is_letter}
use Rattle.syntax.proofs.Runs.{ascii}
use Rattle.script.specs.Forms.{Form, put, tag, get, run, key_tokens, more_tokens, tokens_of}
use Rattle.script.specs.Tokens.{AreSpaces, AreTokens, IsInteger, Lexeme, word, number, sign, unknown, Stands, is_sign}

abbrev pub AreAscii : List ℕ → Type 0
AreAscii bytes = AllByRecursion (λ byte. byte < 128) bytes

joined : (one two : List ℕ) → AreAscii one → AreAscii two → AreAscii (one ++ two)
joined [] two h k = k
joined (first ∷ one) two h k = (h.0, joined one two h.1 k)

spaces : (bytes : List ℕ) → AreSpaces bytes → AreAscii bytes
spaces [] h = tt
spaces (first ∷ rest) h = (grind (arith, nat_tests, h.0), spaces rest h.1)

pub spaces_ascii : (bytes : List ℕ) → AreSpaces bytes → IsAscii bytes
spaces_ascii bytes h = ascii bytes (spaces bytes h)

digits_ascii : (digits : List ℕ) → AreDigits digits → AreAscii digits
digits_ascii [] h = tt
digits_ascii (first ∷ rest) h = (grind (arith, nat_tests, h.0), digits_ascii rest h.1)

parts_ascii : (text : List ℕ) → AllByRecursion (λ byte. (is_letter byte || is_digit byte) ≡ true) text → AreAscii text
parts_ascii [] h = tt
parts_ascii (first ∷ rest) h = (grind (arith, nat_tests, h.0), parts_ascii rest h.1)

word_ascii : (text : List ℕ) → IsWordText text → AreAscii text
word_ascii [] h = absurd h
word_ascii (first ∷ rest) h = (grind (arith, nat_tests, h.0), parts_ascii rest h.1)

sign_ascii : (byte : ℕ) → is_sign byte ≡ true → byte < 128
sign_ascii byte h = grind (arith, nat_tests)

-- a token that is known
abbrev IsKnown : Lexeme → Type 0
IsKnown (word text) = Unit {0}
IsKnown (number value) = Unit {0}
IsKnown (sign byte) = Unit {0}
IsKnown unknown = ⊥

number_ascii : (bytes rest : List ℕ) (value : ℤ) → IsInteger bytes value rest → AreAscii rest → AreAscii bytes
number_ascii bytes rest value h behind = elim h.3 [
  | inl plain ↦ subst AreAscii (sym plain.0) (joined h.0 rest (digits_ascii h.0 h.2.1) behind)
  | inr negative ↦ subst AreAscii (sym negative.0) (lit< tt, joined h.0 rest (digits_ascii h.0 h.2.1) behind)
]

token_ascii : (lexeme : Lexeme) (bytes rest : List ℕ) → IsKnown lexeme → Stands lexeme bytes rest → AreAscii rest → AreAscii bytes
token_ascii (word text) bytes rest known h behind = subst AreAscii (sym h.0) (joined text rest (word_ascii text h.1.0) behind)
token_ascii (number value) bytes rest known h behind = number_ascii bytes rest value h behind
token_ascii (sign byte) bytes rest known h behind = subst AreAscii (sym h.0) (sign_ascii byte h.1, behind)
token_ascii unknown bytes rest known h behind = absurd known

tokens_ascii : (bytes : List ℕ) (tokens : List Lexeme) → AllByRecursion IsKnown tokens → AreTokens bytes tokens → AreAscii bytes
tokens_ascii bytes [] known h = spaces bytes h
tokens_ascii bytes (token ∷ more) known h =
    subst AreAscii (sym h.3) (joined h.0 h.1 (spaces h.0 h.4) (token_ascii token h.1 h.2 known.0 h.5 (tokens_ascii h.2 more known.1 h.6)))

-- ---- the tokens of a form are known

more_known : (key : List ℤ) (close : ℕ) (behind : List Lexeme) → AllByRecursion IsKnown behind → AllByRecursion IsKnown (more_tokens key close ++ behind)
more_known [] close behind h = (tt, h)
more_known (component ∷ key) close behind h = (tt, (tt, more_known key close behind h))

key_known : (key : List ℤ) (close : ℕ) (behind : List Lexeme) → AllByRecursion IsKnown behind → AllByRecursion IsKnown (key_tokens key close ++ behind)
key_known [] close behind h = (tt, h)
key_known (component ∷ key) close behind h = (tt, (tt, more_known key close behind h))

form_known : (form : Form) → AllByRecursion IsKnown (tokens_of form)
form_known (put name key value) = (tt, (tt, (tt, key_known key 93 (sign 61 ∷ number value ∷ []) (tt, (tt, tt)))))
form_known (tag name key) = (tt, (tt, (tt, subst (AllByRecursion IsKnown) (append-nil (key_tokens key 62)) (key_known key 62 [] tt))))
form_known (get name key) = (tt, (tt, (tt, subst (AllByRecursion IsKnown) (append-nil (key_tokens key 93)) (key_known key 93 [] tt))))
form_known run = (tt, tt)

pub form_ascii : (line : List ℕ) (form : Form) → AreTokens line (tokens_of form) → IsAscii line
form_ascii line form h = ascii line (tokens_ascii line (tokens_of form) (form_known form) h)
