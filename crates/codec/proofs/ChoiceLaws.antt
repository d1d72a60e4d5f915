-- A byte that says which of several readings follows.
use Rattle.std.proofs.Common.{◌≡◌, ◌≤◌, ◌+◌, ◌-◌, ℕ, false, cond, ltb, List, [], ◌∷◌, length, take, Ok, refl, sym, ap, ◌∙◌, arith}
use Rattle.std.proofs.lemmas.Bool.{ltb-false, le-ltb}
use Rattle.byteorder.specs.Endian.{little_number}
use Rattle.codec.specs.declared.error.CodecError.TheVariants.{Kind}
use Rattle.codec.specs.Reading.{Reading, number, go_on, fails, chosen, one_of}
use Rattle.codec.proofs.ListLaws.{not_failed}

pub byte_read : (byte : ℕ) (rest : List ℕ) → number 1 (byte ∷ rest) ≡ Ok (byte, rest)
byte_read byte rest =
    let test : ltb (length (byte ∷ rest)) 1 ≡ false = le-ltb (length (byte ∷ rest)) 1 (omega arith) in
    let is : little_number 1 (take 1 (byte ∷ rest)) ≡ byte = omega arith in
    rw (test, is) refl

-- a byte that is not below the first number chooses the reading at its place
pub at_place : {X : Type 0} (first : ℕ) (choices : List (Reading X)) (byte : ℕ) (rest : List ℕ) → first ≤ byte → one_of first choices (byte ∷ rest) ≡ chosen choices (byte - first) rest
at_place first choices byte rest from =
    ap (λ read. go_on read (λ b. cond (ltb b first) (fails Kind) (chosen choices (b - first)))) (byte_read byte rest)
    ∙ ap (λ test. (cond test (fails Kind) (chosen choices (byte - first))) rest) (le-ltb byte first from)

-- what was read was read by the reading at some place
pub some_place : {X : Type 0} (first : ℕ) (choices : List (Reading X)) (bytes : List ℕ) (read : X × List ℕ) → one_of first choices bytes ≡ Ok read
    → (place : ℕ) × (tail : List ℕ) × (bytes ≡ (place + first) ∷ tail) × (chosen choices place tail ≡ Ok read)
some_place first choices [] read is = absurd (cc)
some_place first choices (byte ∷ tail) read is =
    let here = sym (ap (λ r. go_on r (λ b. cond (ltb b first) (fails Kind) (chosen choices (b - first)))) (byte_read byte tail)) ∙ is in
    let p = not_failed (ltb byte first) (chosen choices (byte - first)) Kind tail read here in
    let from : first ≤ byte = ltb-false byte first p.0 in
    let place : byte ≡ byte - first + first = omega arith in
    (byte - first, tail, ap (λ (b : ℕ). b ∷ tail) place, p.1)
