-- When a reading and a spelling agree, and how this carries over from parts to what is made of them.
use Rattle.std.proofs.Common.{◌≡◌, ◌<◌, ℕ, List, [], ◌∷◌, ◌++◌, get_or, suc, zero, Result, Ok, Err, refl, sym, ap, subst, ◌∙◌, arith, append_assoc}
use Rattle.codec.specs.declared.error.CodecError.{CodecError}
use Rattle.codec.specs.Laws.{AreBytes}
use Rattle.codec.specs.Reading.{Reading, go_on, always, next}

-- what follows some of the bytes are bytes too
pub bytes_behind : (front rest : List ℕ) → AreBytes (front ++ rest) → AreBytes rest
bytes_behind [] rest are = are
bytes_behind (byte ∷ front) rest are = bytes_behind front rest are.1

pub bytes_are_low : (bytes : List ℕ) → AreBytes bytes → (k : ℕ) → get_or bytes k 0 < 256
bytes_are_low [] are k = omega arith
bytes_are_low (byte ∷ bytes) are zero = are.0
bytes_are_low (byte ∷ bytes) are (suc k) = bytes_are_low bytes are.1 k

-- if one reading after another succeeds, the first did
pub went_on : {X Y : Type 0} (first : Result (X × List ℕ) CodecError) (second : X → Reading Y) (read : Y × List ℕ) → go_on first second ≡ Ok read
    → (x : X × List ℕ) × (first ≡ Ok x) × (second x.0 x.1 ≡ Ok read)
went_on (Ok x) second read is = (x, refl, is)
went_on (Err error) second read is = absurd (cc)

pub same_read : {X : Type 0} (x y : X) (xs ys : List ℕ) → (let one : Result (X × List ℕ) CodecError = Ok (x, xs) in one) ≡ Ok (y, ys) → (x ≡ y) × (xs ≡ ys)
same_read {X = X} x y xs ys same = let pair : ◌≡◌ {A = X × List ℕ} (x, xs) (y, ys) = cc in (ap (λ p. p.0) pair, ap (λ p. p.1) pair)

-- a value made of such parts is read from their spelling, whatever follows it, and from nothing else
pub record Reads {P V : Type 0} (Is : P → Type 0) (spelling : P → List ℕ) (make : P → V) (reading : Reading V) : Type 0 where
  pub back : (p : P) (rest : List ℕ) → Is p → reading (spelling p ++ rest) ≡ Ok (make p, rest)
  pub only : (bytes : List ℕ) (v : V) (rest : List ℕ) → AreBytes bytes → reading bytes ≡ Ok (v, rest) → (p : P) × (make p ≡ v) × Is p × (bytes ≡ spelling p ++ rest)

-- the same for a value that is its own only part
abbrev pub Agrees : {V : Type 0} → (V → Type 0) → (V → List ℕ) → Reading V → Type 0
Agrees {V = V} Is spelling reading = Reads {P = V} {V = V} Is spelling (λ v. v) reading

pub exactly : {V : Type 0} (Is : V → Type 0) (spelling : V → List ℕ) (reading : Reading V) → Agrees Is spelling reading
    → (bytes : List ℕ) (v : V) (rest : List ℕ) → AreBytes bytes → reading bytes ≡ Ok (v, rest) → Is v × (bytes ≡ spelling v ++ rest)
exactly Is spelling reading agrees bytes v rest are is =
    let found = agrees.only bytes v rest are is in
    subst (λ x. Is x × (bytes ≡ spelling x ++ rest)) found.1 (found.2, found.3)

-- one part after another
pub one_then : {A B V : Type 0} (Is : A → Type 0) (spelling : A → List ℕ) (reading : Reading A) (IsB : B → Type 0) (spellingB : B → List ℕ) (make : A → B → V) (behind : A → Reading V)
    → Agrees Is spelling reading → ((a : A) → Reads IsB spellingB (make a) (behind a))
    → Reads {P = A × B} (λ p. Is p.0 × IsB p.1) (λ p. spelling p.0 ++ spellingB p.1) (λ p. make p.0 p.1) (next reading behind)
one_then {A = A} {B = B} {V = V} Is spelling reading IsB spellingB make behind agrees second = record { back = back; only = only }
  where
    back : (p : A × B) (rest : List ℕ) → Is p.0 × IsB p.1 → next reading behind ((spelling p.0 ++ spellingB p.1) ++ rest) ≡ Ok (make p.0 p.1, rest)
    back p rest is =
        ap (λ bytes. next reading behind bytes) (append_assoc (spelling p.0) (spellingB p.1) rest)
        ∙ ap (λ read. go_on read behind) (agrees.back p.0 (spellingB p.1 ++ rest) is.0) ∙ (second p.0).back p.1 rest is.1

    only : (bytes : List ℕ) (v : V) (rest : List ℕ) → AreBytes bytes → next reading behind bytes ≡ Ok (v, rest)
        → (p : A × B) × (make p.0 p.1 ≡ v) × (Is p.0 × IsB p.1) × (bytes ≡ (spelling p.0 ++ spellingB p.1) ++ rest)
    only bytes v rest are is =
        let w = went_on (reading bytes) behind (v, rest) is in
        let a = exactly Is spelling reading agrees bytes w.0.0 w.0.1 are w.1 in
        let are_rest : AreBytes w.0.1 = bytes_behind (spelling w.0.0) w.0.1 (subst AreBytes a.1 are) in
        let b = (second w.0.0).only w.0.1 v rest are_rest w.2 in
        ((w.0.0, b.0), b.1, (a.0, b.2), a.1 ∙ ap (λ l. spelling w.0.0 ++ l) b.3 ∙ sym (append_assoc (spelling w.0.0) (spellingB b.0) rest))

-- the last part
pub one_last : {A V : Type 0} (Is : A → Type 0) (spelling : A → List ℕ) (reading : Reading A) (make : A → V)
    → Agrees Is spelling reading → Reads Is spelling make (next reading (λ a. always (make a)))
one_last {A = A} {V = V} Is spelling reading make agrees = record { back = back; only = only }
  where
    back : (a : A) (rest : List ℕ) → Is a → next reading (λ x. always (make x)) (spelling a ++ rest) ≡ Ok (make a, rest)
    back a rest is = ap (λ read. go_on read (λ x. always (make x))) (agrees.back a rest is)

    only : (bytes : List ℕ) (v : V) (rest : List ℕ) → AreBytes bytes → next reading (λ x. always (make x)) bytes ≡ Ok (v, rest)
        → (a : A) × (make a ≡ v) × Is a × (bytes ≡ spelling a ++ rest)
    only bytes v rest are is =
        let w = went_on (reading bytes) (λ x. always (make x)) (v, rest) is in
        let a = exactly Is spelling reading agrees bytes w.0.0 w.0.1 are w.1 in
        let same = same_read (make w.0.0) v w.0.1 rest w.2 in
        (w.0.0, same.0, a.0, a.1 ∙ ap (λ l. spelling w.0.0 ++ l) same.1)

-- the same for other parts that correspond to these
pub of_other_parts : {P Q V : Type 0} (IsP : P → Type 0) (spellingP : P → List ℕ) (makeP : P → V) (IsQ : Q → Type 0) (spellingQ : Q → List ℕ) (makeQ : Q → V) (reading : Reading V)
    → Reads IsP spellingP makeP reading
    → (into : Q → P) → ((q : Q) → IsQ q → IsP (into q) × (makeP (into q) ≡ makeQ q) × (spellingQ q ≡ spellingP (into q)))
    → (out : P → Q) → ((p : P) → IsP p → IsQ (out p) × (makeQ (out p) ≡ makeP p) × (spellingP p ≡ spellingQ (out p)))
    → Reads IsQ spellingQ makeQ reading
of_other_parts IsP spellingP makeP IsQ spellingQ makeQ reading reads into there out here = record {
  back = λ q rest is. let t = there q is in ap (λ bytes. reading (bytes ++ rest)) t.2 ∙ reads.back (into q) rest t.0 ∙ ap (λ v. Ok (v, rest)) t.1;
  only = λ bytes v rest are is.
      let p = reads.only bytes v rest are is in
      let h = here p.0 p.2 in
      (out p.0, h.1 ∙ p.1, h.0, p.3 ∙ ap (λ l. l ++ rest) h.2);
}
