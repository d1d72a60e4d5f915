-- Numbers and values are read as they are spelled.
use Rattle.std.proofs.Common.{◌≡◌, ◌<◌, ◌≤◌, ◌+◌, ◌%◌, ◌^◌, ℕ, ℤ, Bool, true, false, cond, ltb, List, [], ◌∷◌, ◌++◌, length, take, drop, get_or, Result, Ok, Err, refl, sym, ap, subst, ◌∙◌, arith, inl, inr}
use Rattle.std.specs.Prelude.{FitsSigned}
use Rattle.std.specs.Int.{w64, cast_unsigned}
use Rattle.std.proofs.Math.Nat.{mod-eq_of_lt}
use Rattle.std.proofs.lemmas.Bool.{ltb-true, ltb-false, le-ltb, lt-ltb, cases_lt}
use Rattle.std.proofs.lemmas.Int.{ints, to_z-of_z, of_z-to_z}
use Rattle.std.proofs.lemmas.List.{length-append, length-take, drop_at, take-append-drop, get_or-take, get_or_past}
use Rattle.std.proofs.lemmas.Nat.{le_bytes_2, le_bytes_4, le_bytes_8}
use Rattle.byteorder.specs.Endian.{little_bytes, little_number, twos_complement}
use Rattle.byteorder.specs.Numbers.{little_from-lt, little_from-take, little_number-reads_back, length-bytes_low_first}
use Rattle.terms.specs.declared.put.TheConstants.{MOST_PUTS}
use Rattle.codec.specs.declared.error.CodecError.{CodecError}
use Rattle.codec.specs.declared.error.CodecError.TheVariants.{Short, Range}
use Rattle.codec.specs.Laws.{AreBytes}
use Rattle.codec.specs.Spelling.{value_bytes}
use Rattle.codec.specs.Reading.{number, value, go_on, always, fails, put_number}
use Rattle.codec.proofs.Agreeing.{Agrees, exactly, went_on, same_read, bytes_are_low, one_last, of_other_parts}
use Rattle.codec.proofs.ListLaws.{passed}
use Rattle.codec.proofs.Numbers.{signed}

-- `width` bytes spell the number that they are read as
pub record IsWide (width : ℕ) : Type 0 where
  pub whole : (bytes : List ℕ) → length bytes ≡ width → ((k : ℕ) → get_or bytes k 0 < 256) → little_bytes width (little_number width bytes) ≡ bytes

one_byte : (bytes : List ℕ) → length bytes ≡ 1 → ((k : ℕ) → get_or bytes k 0 < 256) → little_bytes 1 (little_number 1 bytes) ≡ bytes
one_byte [] long low = absurd (omega arith)
one_byte (byte ∷ []) long low =
    let is : byte + 0 ≡ byte = omega arith in
    ap (λ (b : ℕ). b ∷ []) (ap (λ (b : ℕ). b % 256) is ∙ mod-eq_of_lt (low 0))
one_byte (byte ∷ more ∷ rest) long low = absurd (omega arith)

pub wide_1 : IsWide 1
wide_1 = record { whole = one_byte }

pub wide_2 : IsWide 2
wide_2 = record { whole = λ bytes long low. le_bytes_2 bytes (little_number 2 bytes) long low (omega arith) }

pub wide_4 : IsWide 4
wide_4 = record { whole = λ bytes long low. le_bytes_4 bytes (little_number 4 bytes) long low (omega arith) }

pub wide_8 : IsWide 8
wide_8 = record { whole = λ bytes long low. le_bytes_8 bytes (little_number 8 bytes) long low (omega arith) }

long_enough : (test : Bool) (read other : ℕ × List ℕ) → (let one : Result (ℕ × List ℕ) CodecError = cond test (Err Short) (Ok read) in one) ≡ Ok other → (test ≡ false) × (read ≡ other)
long_enough true read other is = absurd (cc)
long_enough false read other is = (refl, cc)

low_in_front : (n : ℕ) (bytes : List ℕ) → ((k : ℕ) → get_or bytes k 0 < 256) → (k : ℕ) → get_or (take n bytes) k 0 < 256
low_in_front n bytes low k = elim (cases_lt k n) [
  | inl front ↦ omega (arith, get_or-take n bytes k 0 front, low k)
  | inr past ↦ omega (arith, get_or_past (take n bytes) k 0 (omega (arith, length-take n bytes)))
]

pub number_agrees : (width : ℕ) → IsWide width → Agrees (λ n. n < 256 ^ width) (little_bytes width) (number width)
number_agrees width wide = record { back = back; only = only }
  where
    back : (n : ℕ) (rest : List ℕ) → n < 256 ^ width → number width (little_bytes width n ++ rest) ≡ Ok (n, rest)
    back n rest fits =
        let bytes = little_bytes width n ++ rest in
        let long : length (little_bytes width n) ≡ width = length-bytes_low_first 0 width n in
        let test : ltb (length bytes) width ≡ false = le-ltb (length bytes) width (omega (arith, length-append (little_bytes width n) rest)) in
        let is : little_number width (take width bytes) ≡ n = little_from-take 0 width width bytes (omega arith) ∙ little_number-reads_back width n rest fits in
        rw (test, is, drop_at (little_bytes width n) rest width long) refl

    only : (bytes : List ℕ) (n : ℕ) (rest : List ℕ) → AreBytes bytes → number width bytes ≡ Ok (n, rest)
        → (m : ℕ) × (m ≡ n) × (m < 256 ^ width) × (bytes ≡ little_bytes width m ++ rest)
    only bytes n rest are is =
        let g = long_enough (ltb (length bytes) width) (little_number width (take width bytes), drop width bytes) (n, rest) is in
        let long : width ≤ length bytes = ltb-false (length bytes) width g.0 in
        let low = low_in_front width bytes (bytes_are_low bytes are) in
        let m = little_number width (take width bytes) in
        let front : little_bytes width m ≡ take width bytes = wide.whole (take width bytes) (omega (arith, length-take width bytes)) low in
        let m_is : m ≡ n = ap (λ (p : ℕ × List ℕ). p.0) g.1 in
        let rest_is : drop width bytes ≡ rest = ap (λ (p : ℕ × List ℕ). p.1) g.1 in
        (m, m_is, little_from-lt 0 width (take width bytes) low, sym (take-append-drop width bytes) ∙ ap (λ (l : List ℕ). l ++ drop width bytes) (sym front) ∙ ap (λ (l : List ℕ). little_bytes width m ++ l) rest_is)

-- a byte that is spelled as it is
pub byte_agrees : Agrees (λ n. n < 256) (λ n. n ∷ []) (number 1)
byte_agrees =
    of_other_parts (λ n. n < 256 ^ 1) (little_bytes 1) (λ n. n) (λ n. n < 256) (λ n. n ∷ []) (λ n. n) (number 1) (number_agrees 1 wide_1)
    (λ n. n) (λ n is. (is, refl, ap (λ (b : ℕ). b ∷ []) (sym (mod-eq_of_lt is))))
    (λ n. n) (λ n is. (is, refl, ap (λ (b : ℕ). b ∷ []) (mod-eq_of_lt is)))

pub value_agrees : Agrees (FitsSigned w64) value_bytes value
value_agrees =
    of_other_parts (λ n. n < 256 ^ 8) (little_bytes 8) (twos_complement 8) (FitsSigned w64) value_bytes (λ z. z) value
    (one_last (λ n. n < 256 ^ 8) (little_bytes 8) (number 8) (twos_complement 8) (number_agrees 8 wide_8))
    (cast_unsigned w64) (λ z fits. let low = unsigned_fits z fits in (low, sym (signed (cast_unsigned w64 z) low) ∙ to_z-of_z w64 z fits, refl))
    (twos_complement 8) (λ n low. (signed_fits n low, refl, ap (little_bytes 8) (sym (ap (cast_unsigned w64) (sym (signed n low)) ∙ of_z-to_z w64 n low))))
  where
    unsigned_fits : (z : ℤ) → FitsSigned w64 z → cast_unsigned w64 z < 2 ^ 64
    unsigned_fits z fits = omega (arith, ints)

    signed_fits : (n : ℕ) → n < 2 ^ 64 → FitsSigned w64 (twos_complement 8 n)
    signed_fits n low = subst (λ z. FitsSigned w64 z) (signed n low) (omega (arith, ints))

pub count_agrees : Agrees (λ n. n < 2 ^ 32) (little_bytes 4) (number 4)
count_agrees = number_agrees 4 wide_4

pub put_number_agrees : Agrees (λ n. n < MOST_PUTS) (little_bytes 4) put_number
put_number_agrees = record { back = back; only = only }
  where
    back : (n : ℕ) (rest : List ℕ) → n < MOST_PUTS → put_number (little_bytes 4 n ++ rest) ≡ Ok (n, rest)
    back n rest small =
        ap (λ read. go_on read (λ m. cond (ltb m MOST_PUTS) (always m) (fails Range))) (count_agrees.back n rest (omega arith))
        ∙ ap (λ test. (cond test (always n) (fails Range)) rest) (let test : ltb n MOST_PUTS ≡ true = search (arith, lt-ltb) in test)

    only : (bytes : List ℕ) (n : ℕ) (rest : List ℕ) → AreBytes bytes → put_number bytes ≡ Ok (n, rest)
        → (m : ℕ) × (m ≡ n) × (m < MOST_PUTS) × (bytes ≡ little_bytes 4 m ++ rest)
    only bytes n rest are is =
        let w = went_on (number 4 bytes) (λ m. cond (ltb m MOST_PUTS) (always m) (fails Range)) (n, rest) is in
        let p = passed (ltb w.0.0 MOST_PUTS) (always w.0.0) Range w.0.1 (n, rest) w.2 in
        let m = exactly (λ k. k < 2 ^ 32) (little_bytes 4) (number 4) count_agrees bytes w.0.0 w.0.1 are w.1 in
        let same = same_read w.0.0 n w.0.1 rest p.1 in
        (w.0.0, same.0, ltb-true w.0.0 MOST_PUTS p.0, m.1 ∙ ap (λ l. little_bytes 4 w.0.0 ++ l) same.1)
