-- The values of written integers.
use Rattle.std.proofs.Common.{◌≡◌, ◌≢◌, ℕ, ℤ, pos, ◌<◌, List, [], ◌∷◌, length, Result, Ok, Err, refl, arith}
use Rattle.std.specs.Int.{w64}
use Rattle.std.specs.Result.{result_ok}
use Rattle.std.specs.Str.Parse.{IsNumeral as IsDigits, ParsesSigned, digits_value, signed_digits_value, without_leading_sign}
use Rattle.std.proofs.lemmas.Bool.Decides.{nat_tests}
use Rattle.std.proofs.lemmas.Str.Parse.{IsDigitsTest, IsNumeralModel, numerals_by_value}
use Rattle.syntax.specs.Tokens.{AreDigits}
use Rattle.script.specs.Requests.{HasValue}

digits_test : IsDigitsTest AreDigits
digits_test = record {
  empty = tt;
  parts = λ c cs h. (grind (arith, nat_tests, h.0), h.1);
  more = λ c cs h k. (grind (arith, nat_tests), k);
}

own : IsNumeralModel AreDigits (digits_value 10)
own = numerals_by_value AreDigits digits_test

pub some_length : (digits : List ℕ) → digits ≢ [] → 0 < length digits
some_length [] some = absurd (some refl)
some_length (first ∷ rest) some = omega arith

pub all_digits : (digits : List ℕ) → digits ≢ [] → AreDigits digits → IsDigits 10 digits
all_digits digits some are = (some_length digits some, own.to digits are)

-- if there is no sign in front
pub plain_text : (digits : List ℕ) → AreDigits digits → without_leading_sign digits ≡ digits
plain_text [] h = refl
plain_text (first ∷ rest) h = grind (arith, nat_tests, h.0)

pub plain_value : (digits : List ℕ) → AreDigits digits → signed_digits_value 10 digits ≡ pos (digits_value 10 digits)
plain_value [] h = refl
plain_value (first ∷ rest) h = grind (arith, nat_tests, h.0)

-- ---- what `parse` returns

pub value_read : {E : Type 0} (text : List ℕ) (r : Result ℤ E) → ParsesSigned w64 10 text r → IsDigits 10 (without_leading_sign text) → HasValue (result_ok r) (signed_digits_value 10 text)
value_read text (Ok found) h digits = (h.1, h.0.1)
value_read text (Err error) h digits = λ fits. h (digits, fits)
