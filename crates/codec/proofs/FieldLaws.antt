-- Names, puts, producers, marks and faults are read as they are spelled.
use Rattle.std.proofs.Common.{◌≡◌, ◌<◌, ◌≤◌, ◌+◌, ◌^◌, ℕ, ℤ, suc, zero, List, [], ◌∷◌, ◌++◌, length, Result, Ok, refl, sym, ap, subst, ◌∙◌, arith}
use Rattle.std.specs.Prelude.{FitsSigned, ⊤}
use Rattle.std.specs.Int.{w64}
use Rattle.std.specs.List.{AllByRecursion}
use Rattle.byteorder.specs.Endian.{little_bytes}
use Rattle.terms.specs.declared.key.TheConstants.{MAX_COMPONENTS}
use Rattle.terms.specs.declared.name.Addr.{Addr}
use Rattle.terms.specs.declared.name.Tag.{Tag}
use Rattle.terms.specs.declared.name.Inst.{Inst}
use Rattle.terms.specs.declared.fault.FaultKind.{FaultKind}
use Rattle.terms.specs.declared.fault.FaultKind.TheVariants.{Overflow, DivisionByZero, Budget, DoublePut, TooManyPuts}
use Rattle.terms.specs.declared.put.Put.{Put}
use Rattle.terms.specs.declared.put.Put.TheVariants as put
use Rattle.terms.specs.Fault.{fault_number}
use Rattle.codec.specs.declared.error.CodecError.{CodecError}
use Rattle.codec.specs.Laws.{AreBytes}
use Rattle.codec.specs.Spelling.{value_bytes, key_bytes, name_bytes, addr_bytes, tag_bytes, inst_bytes, put_bytes, IsName, IsPut}
use Rattle.codec.specs.Reading.{Reading, number, always, next, value, key, name, address, tag, instance, chosen, put_item, put_tag, one_put, fault_kind}
use Rattle.codec.proofs.Agreeing.{Agrees, Reads, same_read, one_then, one_last, of_other_parts}
use Rattle.codec.proofs.ChoiceLaws.{at_place, some_place}
use Rattle.codec.proofs.ListLaws.{counted_agrees}
use Rattle.codec.proofs.NumberLaws.{number_agrees, byte_agrees, value_agrees, wide_2}

-- ---- faults

abbrev kinds : List (Reading FaultKind)
kinds = always Overflow ∷ always DivisionByZero ∷ always Budget ∷ always DoublePut ∷ always TooManyPuts ∷ []

pub fault_kind_agrees : Agrees (λ _. ⊤) (λ kind. fault_number kind ∷ []) fault_kind
fault_kind_agrees = record { back = back; only = only }
  where
    back : (kind : FaultKind) (rest : List ℕ) → ⊤ → fault_kind (fault_number kind ∷ rest) ≡ Ok (kind, rest)
    back Overflow rest is = at_place 1 kinds 1 rest (omega arith)
    back DivisionByZero rest is = at_place 1 kinds 2 rest (omega arith)
    back Budget rest is = at_place 1 kinds 3 rest (omega arith)
    back DoublePut rest is = at_place 1 kinds 4 rest (omega arith)
    back TooManyPuts rest is = at_place 1 kinds 5 rest (omega arith)

    -- the kind at a place
    stands : (known kind : FaultKind) (number : ℕ) (tail rest : List ℕ) → number ≡ fault_number known → (let one : Result (FaultKind × List ℕ) CodecError = Ok (known, tail) in one) ≡ Ok (kind, rest)
        → number ∷ tail ≡ fault_number kind ∷ rest
    stands known kind number tail rest numbered is =
        let same = same_read known kind tail rest is in
        ap (λ (n : ℕ). n ∷ tail) (numbered ∙ ap fault_number same.0) ∙ ap (λ (l : List ℕ). fault_number kind ∷ l) same.1

    at : (place : ℕ) (tail : List ℕ) (kind : FaultKind) (rest : List ℕ) → chosen kinds place tail ≡ Ok (kind, rest) → (place + 1) ∷ tail ≡ fault_number kind ∷ rest
    at zero tail kind rest is = stands Overflow kind 1 tail rest refl is
    at (suc zero) tail kind rest is = stands DivisionByZero kind 2 tail rest refl is
    at (suc (suc zero)) tail kind rest is = stands Budget kind 3 tail rest refl is
    at (suc (suc (suc zero))) tail kind rest is = stands DoublePut kind 4 tail rest refl is
    at (suc (suc (suc (suc zero)))) tail kind rest is = stands TooManyPuts kind 5 tail rest refl is
    at (suc (suc (suc (suc (suc place))))) tail kind rest is = absurd (cc)

    only : (bytes : List ℕ) (kind : FaultKind) (rest : List ℕ) → AreBytes bytes → fault_kind bytes ≡ Ok (kind, rest)
        → (k : FaultKind) × (k ≡ kind) × ⊤ × (bytes ≡ fault_number k ∷ rest)
    only bytes kind rest are is =
        let there = some_place 1 kinds bytes (kind, rest) is in
        (kind, refl, tt, there.2 ∙ at there.0 there.1 kind rest there.3)

-- a key has at most `most` components, which is a number that a byte can spell
module _ (most : ℕ) (few : most ≤ MAX_COMPONENTS) where
  -- ---- names

  abbrev pub IsKey : List ℤ → Type 0
  IsKey components = (length components ≤ most) × AllByRecursion (FitsSigned w64) components

  key_agrees : Agrees IsKey key_bytes (key most)
  key_agrees = counted_agrees (FitsSigned w64) value_bytes value value_agrees 1 most 256 (λ n. n ∷ []) byte_agrees (omega arith)

  name_reads : {X : Type 0} (make : ℕ → List ℤ → X) → Reads {P = ℕ × List ℤ} (λ p. IsName most p.0 p.1) (λ p. name_bytes p.0 p.1) (λ p. make p.0 p.1) (name most make)
  name_reads make =
      of_other_parts (λ p. (p.0 < 256 ^ 2) × IsKey p.1) (λ p. little_bytes 2 p.0 ++ key_bytes p.1) (λ p. make p.0 p.1) (λ p. IsName most p.0 p.1) (λ p. name_bytes p.0 p.1) (λ p. make p.0 p.1) (name most make)
      (one_then (λ n. n < 256 ^ 2) (little_bytes 2) (number 2) IsKey key_bytes make (λ n. _) (number_agrees 2 wide_2) (λ n. one_last IsKey key_bytes (key most) (make n) key_agrees))
      (λ p. p) (λ p is. ((is.0, (is.1, is.2)), refl, refl))
      (λ p. p) (λ p is. ((is.0, is.1.0, is.1.1), refl, refl))

  named_agrees : {X : Type 0} (make : ℕ → List ℤ → X) (number_of : X → ℕ) (key_of : X → List ℤ) → ((x : X) → make (number_of x) (key_of x) ≡ x)
      → ((n : ℕ) (components : List ℤ) → (number_of (make n components) ≡ n) × (key_of (make n components) ≡ components))
      → Agrees (λ x. IsName most (number_of x) (key_of x)) (λ x. name_bytes (number_of x) (key_of x)) (name most make)
  named_agrees make number_of key_of whole parts =
      of_other_parts (λ p. IsName most p.0 p.1) (λ p. name_bytes p.0 p.1) (λ p. make p.0 p.1) (λ x. IsName most (number_of x) (key_of x)) (λ x. name_bytes (number_of x) (key_of x)) (λ x. x) (name most make)
      (name_reads make)
      (λ x. (number_of x, key_of x)) (λ x is. (is, whole x, refl))
      (λ p. make p.0 p.1) (λ p is. let both = parts p.0 p.1 in (subst (λ n. IsName most n (key_of (make p.0 p.1))) (sym both.0) (subst (λ k. IsName most p.0 k) (sym both.1) is), refl, ap (λ n. name_bytes n p.1) (sym both.0) ∙ ap (λ k. name_bytes (number_of (make p.0 p.1)) k) (sym both.1)))

  pub address_agrees : Agrees (λ (a : Addr). IsName most a.collection.0 a.key) addr_bytes (address most)
  address_agrees = named_agrees (λ n components. record { collection = record { 0 = n }; key = components }) (λ a. a.collection.0) (λ a. a.key) (λ a. refl) (λ n components. (refl, refl))

  pub tag_agrees : Agrees (λ (t : Tag). IsName most t.collection.0 t.key) tag_bytes (tag most)
  tag_agrees = named_agrees (λ n components. record { collection = record { 0 = n }; key = components }) (λ t. t.collection.0) (λ t. t.key) (λ t. refl) (λ n components. (refl, refl))

  pub instance_agrees : Agrees (λ (i : Inst). IsName most i.collection.0 i.key) inst_bytes (instance most)
  instance_agrees = named_agrees (λ n components. record { collection = record { 0 = n }; key = components }) (λ i. i.collection.0) (λ i. i.key) (λ i. refl) (λ n components. (refl, refl))

  -- ---- an item or a tag, which events and puts are

  pub item_reads : {V : Type 0} (make : Addr → ℤ → V)
      → Reads {P = Addr × ℤ} (λ p. IsName most p.0.collection.0 p.0.key × FitsSigned w64 p.1) (λ p. addr_bytes p.0 ++ value_bytes p.1) (λ p. make p.0 p.1) (next (address most) (λ a. next value (λ v. always (make a v))))
  item_reads make =
      one_then (λ a. IsName most a.collection.0 a.key) addr_bytes (address most) (FitsSigned w64) value_bytes make (λ a. next value (λ v. always (make a v)))
      address_agrees (λ a. one_last (FitsSigned w64) value_bytes value (make a) value_agrees)

  pub tag_reads : {V : Type 0} (make : Tag → V) → Reads (λ t. IsName most t.collection.0 t.key) tag_bytes make (next (tag most) (λ t. always (make t)))
  tag_reads make = one_last (λ t. IsName most t.collection.0 t.key) tag_bytes (tag most) make tag_agrees

  -- ---- puts

  pub put_agrees : Agrees (IsPut most) put_bytes (one_put most)
  put_agrees = record { back = back; only = only }
    where
      back : (p : Put) (rest : List ℕ) → IsPut most p → one_put most (put_bytes p ++ rest) ≡ Ok (p, rest)
      back (put.Item a v) rest is = at_place 1 (put_item most ∷ put_tag most ∷ []) 1 (addr_bytes a ++ value_bytes v ++ rest) (omega arith) ∙ (item_reads put.Item).back (a, v) rest is
      back (put.Tag t) rest is = at_place 1 (put_item most ∷ put_tag most ∷ []) 2 (tag_bytes t ++ rest) (omega arith) ∙ (tag_reads put.Tag).back t rest is

      at : (place : ℕ) (tail : List ℕ) (p : Put) (rest : List ℕ) → AreBytes tail → chosen (put_item most ∷ put_tag most ∷ []) place tail ≡ Ok (p, rest)
          → IsPut most p × ((place + 1) ∷ tail ≡ put_bytes p ++ rest)
      at zero tail p rest are is =
          let found = (item_reads put.Item).only tail p rest are is in
          subst (λ q. IsPut most q × (1 ∷ tail ≡ put_bytes q ++ rest)) found.1 (found.2, ap (λ (l : List ℕ). 1 ∷ l) found.3)
      at (suc zero) tail p rest are is =
          let found = (tag_reads put.Tag).only tail p rest are is in
          subst (λ q. IsPut most q × (2 ∷ tail ≡ put_bytes q ++ rest)) found.1 (found.2, ap (λ (l : List ℕ). 2 ∷ l) found.3)
      at (suc (suc place)) tail p rest are is = absurd (cc)

      only : (bytes : List ℕ) (p : Put) (rest : List ℕ) → AreBytes bytes → one_put most bytes ≡ Ok (p, rest) → (q : Put) × (q ≡ p) × IsPut most q × (bytes ≡ put_bytes q ++ rest)
      only bytes p rest are is =
          let there = some_place 1 (put_item most ∷ put_tag most ∷ []) bytes (p, rest) is in
          let are_tail : AreBytes there.1 = (subst AreBytes there.2 are).1 in
          let found = at there.0 there.1 p rest are_tail there.3 in
          (p, refl, found.0, there.2 ∙ found.1)
