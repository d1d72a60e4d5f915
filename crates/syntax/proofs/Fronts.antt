-- What comes first in a text that begins with a letter or a digit.
use Rattle.std.proofs.Common.{◌≡◌, ◌≢◌, ℕ, ℤ, pos, ◌+◌, ◌<◌, ◌≤◌, Bool, true, ◌||◌, List, [], ◌∷◌, length, get_or, take, drop, Option, Result, MatchOption, refl, sym, subst, arith, one-add, take-append-drop, rules}
use Rattle.std.specs.Int.{cast_signed, cast_unsigned, w64}
use Rattle.std.proofs.lemmas.Int.{to_z-of_z}
use Rattle.std.specs.List.{prefix_len}
use Rattle.std.specs.Result.{result_ok}
use Rattle.std.specs.Str.Parse.{digits_value, ParsesSigned}
use Rattle.std.proofs.lemmas.Bool.Decides.{nat_tests}
use Rattle.std.proofs.lemmas.Str.Parse.{IsDigitsTest, IsNumeralModel, numerals_by_value}
use Rattle.syntax.specs.Tokens.{AreDigits, BeginsWithout, GREATEST, IsNumeral, IsTooLarge, IsWhole, IsWordText, number, Stands, is_digit, is_letter}
use Rattle.syntax.proofs.Runs.{passes, stops}

abbrev pub is_word_part : ℕ → Bool
is_word_part byte = is_letter byte || is_digit byte

pub letter_part : (byte : ℕ) → is_letter byte ≡ true → is_word_part byte ≡ true
letter_part byte h = rw h refl

word_front : (first : ℕ) (rest : List ℕ) (n : ℕ) → n ≡ prefix_len is_word_part (first ∷ rest) → is_letter first ≡ true → IsWordText (take n (first ∷ rest))
word_front first rest n e h =
    let is : n ≡ 1 + prefix_len is_word_part rest = rw (letter_part first h) at e in
    subst (λ k. IsWordText (take k (first ∷ rest))) (sym is) (rw one-add (h, passes is_word_part rest))

pub whole_front : (text : List ℕ) (n : ℕ) → n ≡ prefix_len is_word_part text → 0 < length text → is_letter (get_or text 0 0) ≡ true → IsWhole (take n text) (drop n text)
whole_front [] n e some h = absurd (omega arith)
whole_front (first ∷ rest) n e some h =
    (word_front first rest n e h, subst (λ k. BeginsWithout is_word_part (drop k (first ∷ rest))) (sym e) (stops is_word_part (first ∷ rest)))

-- ---- digits

pub has_digits : (text : List ℕ) (n : ℕ) → n ≡ prefix_len is_digit text → AreDigits (take n text)
has_digits text n e = subst (λ k. AreDigits (take k text)) (sym e) (passes is_digit text)

pub some_digits : (text : List ℕ) (n : ℕ) → n ≡ prefix_len is_digit text → 0 < length text → is_digit (get_or text 0 0) ≡ true → take n text ≢ []
some_digits [] n e some h empty = absurd (omega arith)
some_digits (first ∷ rest) n e some h empty =
    let is : n ≡ 1 + prefix_len is_digit rest = rw h at e in
    let front : take (1 + prefix_len is_digit rest) (first ∷ rest) ≡ [] = subst (λ k. take k (first ∷ rest) ≡ []) is empty in
    let cons = rw one-add at front in
    cc

pub numeral : (text : List ℕ) (n value : ℕ) → n ≡ prefix_len is_digit text → 0 < length text → is_digit (get_or text 0 0) ≡ true → digits_value 10 (take n text) ≡ value
    → IsNumeral (take n text) value (drop n text)
numeral text n value e some h is = grind (arith, has_digits, some_digits, stops)

pub number_stands : (text : List ℕ) (n : ℕ) (value : ℤ) → n ≡ prefix_len is_digit text → 0 < length text → is_digit (get_or text 0 0) ≡ true
    → digits_value 10 (take n text) ≤ GREATEST → value ≡ pos (digits_value 10 (take n text)) → Stands (number (cast_unsigned w64 value)) text (drop n text)
number_stands text n value e some h fits is = grind (arith, numeral, take-append-drop)

pub too_large : (text : List ℕ) (n : ℕ) → n ≡ prefix_len is_digit text → 0 < length text → is_digit (get_or text 0 0) ≡ true
    → GREATEST < digits_value 10 (take n text) → IsTooLarge text
too_large text n e some h large = (take n text, drop n text, digits_value 10 (take n text), sym (take-append-drop n text), numeral text n _ e some h refl, large)

digits_test : IsDigitsTest AreDigits
digits_test = record {
  empty = tt;
  parts = λ c cs h. (grind (arith, nat_tests, h.0), h.1);
  more = λ c cs h k. (grind (arith, nat_tests), k);
}

pub own : IsNumeralModel AreDigits (digits_value 10)
own = numerals_by_value AreDigits digits_test

pub number_of : {E : Type 0} (digits : List ℕ) (r : Result ℤ E) (o : Option ℤ) → ParsesSigned w64 10 digits r → AreDigits digits → digits ≢ [] → o ≡ result_ok r
    → MatchOption o (GREATEST < digits_value 10 digits) (λ (found : ℤ). (digits_value 10 digits ≤ GREATEST) × (found ≡ pos (digits_value 10 digits)))
number_of digits r o parses are some is = search (rules, own)

-- a number of 64 bits keeps its value when it is passed on
pub passed_on : (value : ℕ) (found : ℤ) → value ≤ GREATEST → found ≡ pos value → cast_signed w64 (cast_unsigned w64 found) ≡ pos value
passed_on value found fits is = rw is (to_z-of_z w64 (pos value) (omega arith))
