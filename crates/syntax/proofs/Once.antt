-- A text has at most one list of tokens.
use Rattle.std.proofs.Common.{◌≡◌, ◌≢◌, ℕ, ◌+◌, ◌-◌, ◌<◌, ◌≤◌, Bool, true, false, ◌⊎◌, if◌then◌else◌, List, [], ◌∷◌, ◌++◌, length, inl, inr, refl, sym, ap, subst, ◌∙◌, arith, codes, lit≤, lit<}
use Rattle.std.specs.Str.Parse.{digits_value}
use Rattle.std.proofs.lemmas.List.{append-nil}
use Rattle.syntax.specs.declared.token.Symbol.{Symbol}
use Rattle.syntax.specs.declared.token.Word.{Word}
use Rattle.syntax.specs.declared.token.Symbol.TheVariants.{OpenBracket, Colon}
use Rattle.syntax.specs.Tokens.{AreBlank, AreDigits, AreTokens, Begins, BeginsNone, BeginsWithout, IsNumeral, IsTooLarge, IsWhole, IsWordText, Lexeme, name, number, word, symbol, unknown, Spot}
use Rattle.syntax.specs.Tokens.{Stands, is_blank, is_digit, is_letter, word_text, symbol_text, TokensExample}
use Rattle.syntax.proofs.Runs.{Passes, split_once}
use Rattle.syntax.proofs.Fronts.{is_word_part}
use Rattle.syntax.proofs.Signs.{same_word, same_symbol}

-- ---- the first character

digit_no_letter : (byte : ℕ) → is_digit byte ≡ true → is_letter byte ≡ false
digit_no_letter byte h = grind arith

-- 0 for a letter, 1 for a digit, 2 for another character, and 3 for a blank or none
abbrev lead : List ℕ → ℕ
lead [] = 3
lead (first ∷ rest) = if is_letter first then 0 else (if is_digit first then 1 else (if is_blank first then 3 else 2))

letter_leads : (text rest bytes : List ℕ) → bytes ≡ text ++ rest → IsWordText text → lead bytes ≡ 0
letter_leads text rest bytes e h = grind arith

digit_leads : (digits rest bytes : List ℕ) → bytes ≡ digits ++ rest → digits ≢ [] → AreDigits digits → lead bytes ≡ 1
digit_leads [] rest bytes e some h = absurd (some refl)
digit_leads (first ∷ more) rest bytes e some h =
    ap lead e ∙ ap (λ (b : Bool). if b then 0 else (if is_digit first then 1 else (if is_blank first then 3 else 2))) (digit_no_letter first h.0) ∙ ap (λ (b : Bool). if b then 1 else (if is_blank first then 3 else 2)) h.0

sign_leads : (sign : Symbol) (rest : List ℕ) → lead (symbol_text sign ++ rest) ≡ 2
sign_leads sign rest = grind arith

none_leads : (bytes : List ℕ) → BeginsNone bytes → lead bytes ≡ 2
none_leads bytes h = grind arith

large_leads : (bytes : List ℕ) → IsTooLarge bytes → lead bytes ≡ 1
large_leads bytes h = digit_leads h.0 h.1 bytes h.3 h.4.0 h.4.1

-- what a token may begin with
abbrev least : Lexeme → ℕ
least (number value) = 1
least (symbol sign) = 2
least unknown = 1
least _ = 0

abbrev most : Lexeme → ℕ
most (number value) = 1
most (symbol sign) = 2
most unknown = 2
most _ = 0

leads : (lexeme : Lexeme) (bytes rest : List ℕ) → Stands lexeme bytes rest → (least lexeme ≤ lead bytes) × (lead bytes ≤ most lexeme) × (lead bytes < 3)
leads lexeme bytes rest h = grind (arith, digit_leads, large_leads, letter_leads, none_leads, sign_leads)

-- at least one character, and the first is no blank
abbrev Starts : List ℕ → Type 0
Starts bytes = BeginsWithout is_blank bytes × (bytes ≢ [])

starts : (lexeme : Lexeme) (bytes rest : List ℕ) → Stands lexeme bytes rest → Starts bytes
starts lexeme bytes rest stands = grind (arith, leads)

-- ---- the first token

word_passes : (text : List ℕ) → IsWordText text → Passes is_word_part text
word_passes text h = grind arith

same_texts : (one two r s : List ℕ) → one ++ r ≡ two ++ s → IsWhole one r → IsWhole two s → (one ≡ two) × (r ≡ s)
same_texts one two r s e h k = split_once is_word_part one two r s (word_passes one h.0) (word_passes two k.0) h.1 k.1 e

same_digits : (one two r s : List ℕ) (m n : ℕ) → one ++ r ≡ two ++ s → IsNumeral one m r → IsNumeral two n s → (m ≡ n) × (r ≡ s)
same_digits one two r s m n e h k =
    let same = split_once is_digit one two r s h.1 k.1 h.2 k.2 e in
    (sym h.3 ∙ ap (digits_value 10) same.0 ∙ k.3, same.1)

same_fronts : (one two r s : List ℕ) → length one ≡ length two → one ++ r ≡ two ++ s → (one ≡ two) × (r ≡ s)
same_fronts [] [] r s long e = (refl, e)
same_fronts [] (d ∷ two) r s long e = absurd (omega arith)
same_fronts (c ∷ one) [] r s long e = absurd (omega arith)
same_fronts (c ∷ one) (d ∷ two) r s long e =
    let heads : c ≡ d = cc in
    let tails : one ++ r ≡ two ++ s = cc in
    let rest = same_fronts one two r s (omega arith) tails in
    let fronts : one ≡ two = rest.0 in
    (cc, rest.1)

no_sign : (bytes : List ℕ) (sign : Symbol) → BeginsNone bytes → Begins (symbol_text sign) bytes → ⊥
no_sign [] sign h begins = h
no_sign (first ∷ rest) sign h begins = h.3 sign begins

never_large : (bytes rest : List ℕ) (value : ℕ) → Stands (number value) bytes rest → IsTooLarge bytes ⊎ BeginsNone bytes → ⊥
never_large bytes rest value x h = grind (arith, digit_leads, none_leads, same_digits)

never_sign : (bytes rest : List ℕ) (sign : Symbol) → Stands (symbol sign) bytes rest → IsTooLarge bytes ⊎ BeginsNone bytes → ⊥
never_sign bytes rest sign x h = elim h [
  | inl large ↦ omega (arith, large_leads bytes large, ap lead x.0 ∙ sign_leads sign rest)
  | inr none ↦ no_sign bytes sign none (rest, x.0)
]

abbrev Same : Lexeme → List ℕ → Lexeme → List ℕ → Type 0
Same one r two s = (one ≡ two) × (r ≡ s)

stands_once : (bytes r s : List ℕ) (one two : Lexeme) → Stands one bytes r → Stands two bytes s → Same one r two s
stands_once bytes r s (name a) (name b) x y = let same = same_texts a b r s (sym x.0 ∙ y.0) x.1 y.1 in (ap name same.0, same.1)
stands_once bytes r s (name a) (word k) x y = absurd (x.2 k (same_texts a (word_text k) r s (sym x.0 ∙ y.0) x.1 y.1).0)
stands_once bytes r s (word j) (name b) x y = absurd (y.2 j (sym (same_texts (word_text j) b r s (sym x.0 ∙ y.0) x.1 y.1).0))
stands_once bytes r s (word j) (word k) x y = let same = same_texts (word_text j) (word_text k) r s (sym x.0 ∙ y.0) x.1 y.1 in (ap word (same_word j k same.0), same.1)
stands_once bytes r s (number m) (number n) x y = let same = same_digits x.0 y.0 r s m n (sym x.1 ∙ y.1) x.2 y.2 in (ap number same.0, same.1)
stands_once bytes r s (number m) unknown x y = absurd (never_large bytes r m x y.1)
stands_once bytes r s (symbol t) (symbol u) x y =
    let long : length (symbol_text t) ≡ length (symbol_text u) = omega (arith, x.1 u (s, y.0), y.1 t (r, x.0)) in
    let same = same_fronts (symbol_text t) (symbol_text u) r s long (sym x.0 ∙ y.0) in
    (ap symbol (same_symbol t u same.0), same.1)
stands_once bytes r s (symbol t) unknown x y = absurd (never_sign bytes r t x y.1)
stands_once bytes r s unknown (number n) x y = absurd (never_large bytes s n y x.1)
stands_once bytes r s unknown (symbol t) x y = absurd (never_sign bytes s t y x.1)
stands_once bytes r s unknown unknown x y = (refl, x.0 ∙ sym y.0)
stands_once bytes r s one two x y = absurd (omega (arith, leads one bytes r x, leads two bytes s y))

-- ---- lists of tokens

blank_is_none : (lexeme : Lexeme) (bytes blanks here rest : List ℕ) → AreBlank bytes → bytes ≡ blanks ++ here → AreBlank blanks → Stands lexeme here rest → ⊥
blank_is_none lexeme bytes blanks here rest all e front stands =
    let begins = starts lexeme here rest stands in
    let same = split_once is_blank bytes blanks [] here all front tt begins.0 (append-nil bytes ∙ e) in
    begins.1 (sym same.1)

same_lists : (spot spot' : Spot) (more more' : List Spot) → spot.0 ≡ spot'.0 → spot.1 ≡ spot'.1 → more ≡ more' → spot ∷ more ≡ spot' ∷ more'
same_lists spot spot' more more' lexemes places tails = grind arith

pub once : (one two : List Spot) (at : ℕ) (bytes : List ℕ) → AreTokens at bytes one → AreTokens at bytes two → one ≡ two
once [] [] at bytes x y = refl
once [] (spot ∷ more) at bytes x y = absurd (blank_is_none spot.0 bytes y.0 y.1 y.2 x y.3 y.4 y.6)
once (spot ∷ more) [] at bytes x y = absurd (blank_is_none spot.0 bytes x.0 x.1 x.2 y x.3 x.4 x.6)
once (spot ∷ more) (spot' ∷ more') at bytes x y =
    let from : Starts x.1 = starts spot.0 x.1 x.2 x.6 in
    let from' : Starts y.1 = starts spot'.0 y.1 y.2 y.6 in
    let same = split_once is_blank x.0 y.0 x.1 y.1 x.4 y.4 from.0 from'.0 (sym x.3 ∙ y.3) in
    let here : Stands spot'.0 x.1 y.2 = subst (λ here. Stands spot'.0 here y.2) (sym same.1) y.6 in
    let token = stands_once x.1 x.2 y.2 spot.0 spot'.0 x.6 here in
    let place : spot.1 ≡ spot'.1 = x.5 ∙ ap (λ blanks. at + length blanks) same.0 ∙ sym y.5 in
    let moved : spot'.1 + (length y.1 - length y.2) ≡ spot.1 + (length x.1 - length x.2) = omega (arith, ap length same.1, ap length token.1, place) in
    let rest : AreTokens (spot.1 + (length x.1 - length x.2)) x.2 more' =
    subst (λ k. AreTokens k x.2 more') moved (subst (λ r. AreTokens (spot'.1 + (length y.1 - length y.2)) r more') (sym token.1) y.7) in
    let tails : more ≡ more' = once more more' _ x.2 x.7 rest in
    let lexemes : spot.0 ≡ spot'.0 = token.0 in
    same_lists spot spot' more more' lexemes place tails

-- ---- two examples

heads : (c d : ℕ) (r s : List ℕ) → c ∷ r ≡ d ∷ s → c ≡ d
heads c d r s e = cc

tails : (c d : ℕ) (r s : List ℕ) → c ∷ r ≡ d ∷ s → r ≡ s
tails c d r s e = cc

-- no sign that begins with `[` is longer
open_longest : (rest : List ℕ) (other : Symbol) → Begins (symbol_text other) (91 ∷ rest) → length (symbol_text other) ≤ 1
open_longest rest other h = grind arith

-- no sign that begins with `:` before a digit is longer
colon_longest : (rest : List ℕ) (other : Symbol) → Begins (symbol_text other) (58 ∷ 49 ∷ rest) → length (symbol_text other) ≤ 1
colon_longest rest other h = grind arith

-- a word of one letter is not reserved
is_a_name : (letter : ℕ) (kept : Word) → letter ∷ [] ≢ word_text kept
is_a_name letter kept = grind arith

bracket : Stands (symbol OpenBracket) (codes "[x :12") (codes "x :12")
bracket = (refl, open_longest (codes "x :12"))

x_name : Stands (name (codes "x")) (codes "x :12") (codes " :12")
x_name = (refl, ((refl, tt), refl), is_a_name 120)

colon : Stands (symbol Colon) (codes ":12") (codes "12")
colon = (refl, colon_longest (codes "2"))

twelve : Stands (number 12) (codes "12") []
twelve = (codes "12", refl, (λ none. cc, (refl, (refl, tt)), tt, refl), lit≤ tt)

a_name : Stands (name (codes "a")) (codes "a 9223372036854775808 b") (codes " 9223372036854775808 b")
a_name = (refl, ((refl, tt), refl), is_a_name 97)

large : Stands unknown (codes "9223372036854775808 b") []
large = (
  refl,
  inl (
    codes "9223372036854775808",
    codes " b",
    9223372036854775808,
    refl,
    (λ none. cc, (refl, (refl, (refl, (refl, (refl, (refl, (refl, (refl, (refl, (refl, (refl, (refl, (refl, (refl, (refl, (refl, (refl, (refl, (refl, tt))))))))))))))))))), refl, refl),
    lit< tt,
  ),
)

-- one token, and those after it
token : (place : ℕ) (blanks here rest : List ℕ) (lexeme : Lexeme) (more : List Spot) → AreBlank blanks → Stands lexeme here rest → AreTokens (place + length blanks + (length here - length rest)) rest more
    → AreTokens place (blanks ++ here) ((lexeme, place + length blanks) ∷ more)
token place blanks here rest lexeme more none stands later = (blanks, here, rest, refl, none, refl, stands, later)

pub example : TokensExample
example = (
  token 0 [] (codes "[x :12") (codes "x :12") (symbol OpenBracket) ((name (codes "x"), 1) ∷ (symbol Colon, 3) ∷ (number 12, 4) ∷ []) tt bracket
      (token 1 [] (codes "x :12") (codes " :12") (name (codes "x")) ((symbol Colon, 3) ∷ (number 12, 4) ∷ []) tt x_name
      (token 2 (codes " ") (codes ":12") (codes "12") (symbol Colon) ((number 12, 4) ∷ []) (refl, tt) colon (token 4 [] (codes "12") [] (number 12) [] tt twelve tt))),
  token 0 [] (codes "a 9223372036854775808 b") (codes " 9223372036854775808 b") (name (codes "a")) ((unknown, 2) ∷ []) tt a_name
      (token 1 (codes " ") (codes "9223372036854775808 b") [] unknown [] (refl, tt) large tt),
)
