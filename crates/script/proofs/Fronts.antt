-- The first token of a text that begins with a digit or a hyphen.
use Rattle.std.proofs.Common.{◌≡◌, ◌≢◌, ℕ, zero, suc, ◌+◌, ◌-◌, ◌<◌, ◌≤◌, true, List, [], ◌∷◌, length, get_or, take, drop, inl, inr, refl, sym, ap, subst, ◌∙◌, arith, add-one, length-drop, take-append-drop}
use Rattle.std.specs.List.{prefix_len}
use Rattle.std.proofs.lemmas.List.{take_all}
use Rattle.std.proofs.lemmas.List.Sums.{prefix_len-le-length}
use Rattle.std.specs.Str.Parse.{IsNumeral as IsDigits, digits_value, signed_digits_value, without_leading_sign}
use Rattle.syntax.specs.Tokens.{BeginsWithout, IsNumeral, is_digit}
use Rattle.script.specs.Tokens.{Stands, number}
use Rattle.syntax.proofs.Fronts.{has_digits}
use Rattle.syntax.proofs.Runs.{stops}
use Rattle.script.proofs.Values.{all_digits, plain_text, plain_value}

some_front : (text : List ℕ) (n : ℕ) → 0 < n → 0 < length text → take n text ≢ []
some_front [] n more some empty = omega arith
some_front (first ∷ rest) zero more some empty = omega arith
some_front (first ∷ rest) (suc n) more some empty = absurd (cc)

numeral : (text : List ℕ) (n : ℕ) → n ≡ prefix_len is_digit text → 0 < n → 0 < length text → IsNumeral (take n text) (digits_value 10 (take n text)) (drop n text)
numeral text n e more some =
    (some_front text n more some, has_digits text n e, subst (λ k. BeginsWithout is_digit (drop k text)) (sym e) (stops is_digit text), refl)

pub digit_more : (text : List ℕ) (n : ℕ) → n ≡ prefix_len is_digit text → 0 < length text → is_digit (get_or text 0 0) ≡ true → 0 < n
digit_more [] n e some h = absurd (omega arith)
digit_more (first ∷ rest) n e some h =
    let is : n ≡ 1 + prefix_len is_digit rest = rw h at e in
    omega arith

pub number_stands : (text : List ℕ) (n : ℕ) → n ≡ prefix_len is_digit text → 0 < n → 0 < length text → Stands (number (signed_digits_value 10 (take n text))) text (drop n text)
number_stands text n e more some =
    (take n text, digits_value 10 (take n text), numeral text n e more some, inl (sym (take-append-drop n text), plain_value (take n text) (has_digits text n e)))

pub number_sound : (text : List ℕ) (n : ℕ) → n ≡ prefix_len is_digit text → 0 < n → 0 < length text → IsDigits 10 (without_leading_sign (take n text))
number_sound text n e more some =
    subst (IsDigits 10) (sym (plain_text (take n text) (has_digits text n e))) (all_digits (take n text) (some_front text n more some) (has_digits text n e))

-- ---- after a hyphen

-- the digits of the text after its first byte
pub behind_first : (bytes : List ℕ) (n : ℕ) → n ≡ prefix_len is_digit (take (length bytes - 1) (drop 1 bytes)) → n ≡ prefix_len is_digit (drop 1 bytes)
behind_first bytes n e =
    let whole : take (length bytes - 1) (drop 1 bytes) ≡ drop 1 bytes = take_all (length bytes - 1) (drop 1 bytes) (omega (arith, length-drop 1 bytes)) in
    e ∙ ap (prefix_len is_digit) whole

some_rest : (rest : List ℕ) (n : ℕ) → n ≡ prefix_len is_digit rest → 0 < n → 0 < length rest
some_rest rest n e more = omega (arith, prefix_len-le-length is_digit rest)

pub negative_within : (text : List ℕ) (n : ℕ) → n ≡ prefix_len is_digit (drop 1 text) → 0 < n → n + 1 ≤ length text
negative_within text n e more = omega (arith, prefix_len-le-length is_digit (drop 1 text), length-drop 1 text)

pub negative_stands : (text : List ℕ) (n : ℕ) → get_or text 0 0 ≡ 45 → n ≡ prefix_len is_digit (drop 1 text) → 0 < n
    → Stands (number (signed_digits_value 10 (take (n + 1) text))) text (drop (n + 1) text)
negative_stands [] n is e more = absurd (omega arith)
negative_stands (first ∷ rest) n is e more =
    rw (is, add-one) (take n rest, digits_value 10 (take n rest), numeral rest n e more (some_rest rest n e more), inr (ap (λ (bytes : List ℕ). 45 ∷ bytes) (sym (take-append-drop n rest)), refl))

pub negative_sound : (text : List ℕ) (n : ℕ) → get_or text 0 0 ≡ 45 → n ≡ prefix_len is_digit (drop 1 text) → 0 < n → IsDigits 10 (without_leading_sign (take (n + 1) text))
negative_sound [] n is e more = absurd (omega arith)
negative_sound (first ∷ rest) n is e more =
    rw (is, add-one) (all_digits (take n rest) (some_front rest n more (some_rest rest n e more)) (has_digits rest n e))
