-- Numbers in bytes: the code reads them as the definitions do.
use Rattle.std.proofs.Common.{◌≡◌, ◌≤◌, ◌<◌, ◌-◌, ◌^◌, ℕ, ℤ, inl, inr, List, Ok, length, take, drop, refl, sym, ap, ◌∙◌, arith}
use Rattle.std.specs.Prelude.{FitsSigned, Result, slice_index}
use Rattle.std.specs.Int.{w64, cast_signed, cast_unsigned}
use Rattle.std.proofs.lemmas.Bool.{cases_lt, lt-ltb, le-ltb}
use Rattle.std.proofs.lemmas.Int.{ints, to_z-of_z}
use Rattle.std.proofs.lemmas.List.{take_rest}
use Rattle.byteorder.specs.Endian.{little_number, twos_complement}
use Rattle.byteorder.specs.Numbers.{little_from-lt, little_from-take}
use Rattle.codec.specs.Reading.{value}
use Rattle.codec.specs.declared.error.CodecError.{CodecError}

pub signed : (n : ℕ) → n < 2 ^ 64 → cast_signed w64 n ≡ twos_complement 8 n
signed n fits = elim (cases_lt n (2 ^ 63)) [
  | inl low ↦ rw (lt-ltb n (2 ^ 63) low) (omega (arith, ints))
  | inr high ↦ rw (le-ltb n (2 ^ 63) high) (omega (arith, ints))
]

-- the value in the first eight bytes
pub value_in : (bytes : List ℕ) (z : ℤ) → ((k : ℕ) → slice_index bytes k < 256) → z ≡ cast_signed w64 (little_number 8 bytes) → z ≡ twos_complement 8 (little_number 8 bytes)
value_in bytes z low is = is ∙ signed (little_number 8 bytes) (little_from-lt 0 8 bytes low)

-- a value is read as the definition says
pub value_read : (bytes : List ℕ) (z : ℤ) → 8 ≤ length bytes → FitsSigned w64 z → z ≡ twos_complement 8 (little_number 8 bytes)
    → (let read : Result (ℤ × List ℕ) CodecError = Ok (cast_signed w64 (cast_unsigned w64 z), take (length bytes - 8) (drop 8 bytes)) in read) ≡ value bytes
value_read bytes z long fits is =
    let same : little_number 8 (take 8 bytes) ≡ little_number 8 bytes = little_from-take 0 8 8 bytes (omega arith) in
    let number : cast_signed w64 (cast_unsigned w64 z) ≡ twos_complement 8 (little_number 8 (take 8 bytes)) = to_z-of_z w64 z fits ∙ is ∙ sym (ap (twos_complement 8) same) in
    rw (le-ltb (length bytes) 8 long, number, take_rest bytes 8) refl
