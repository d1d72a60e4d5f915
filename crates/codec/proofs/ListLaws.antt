-- If elements are read as they are spelled, so are lists of them.
use Rattle.std.proofs.Common.{◌≡◌, ◌<◌, ◌≤◌, ◌^◌, ℕ, suc, zero, Bool, true, false, cond, ltb, List, [], ◌∷◌, ◌++◌, length, Option, Some, None, Ok, refl, sym, ap, subst, ◌∙◌, arith, append_assoc}
use Rattle.std.specs.List.{flat_map, AllByRecursion}
use Rattle.std.specs.declared.cmp.Ordering.{Ordering}
use Rattle.std.specs.declared.cmp.Ordering.TheVariants.{Less, Equal, Greater}
use Rattle.std.specs.Ordering.{is_lt}
use Rattle.std.proofs.lemmas.Bool.{ltb-false, le-ltb}
use Rattle.codec.specs.declared.error.CodecError.{CodecError}
use Rattle.codec.specs.declared.error.CodecError.TheVariants.{Order, Range}
use Rattle.codec.specs.Entries.{Rises}
use Rattle.codec.specs.Laws.{AreBytes}
use Rattle.codec.specs.Spelling.{IsList, list_bytes}
use Rattle.byteorder.specs.Endian.{little_bytes}
use Rattle.codec.specs.Reading.{Reading, go_on, always, fails, next, number, several, counted, rising, list, comes_after}
use Rattle.codec.proofs.Agreeing.{Agrees, exactly, went_on, same_read, bytes_behind}

-- each element comes after the one before it, if there is one
abbrev pub RisesBehind : {X : Type 0} → (X → X → Ordering) → Option X → List X → Type 0
RisesBehind cmp None xs = Rises cmp xs
RisesBehind cmp (Some before) xs = Rises cmp (before ∷ xs)

less_from_test : (o : Ordering) → is_lt o ≡ true → o ≡ Less
less_from_test Less is = refl
less_from_test Equal is = absurd (cc)
less_from_test Greater is = absurd (cc)

module _ {X : Type 0} (cmp : X → X → Ordering) where
  starts : (before : Option X) → RisesBehind cmp before []
  starts None = tt
  starts (Some before) = tt

  follows : (before : Option X) (x : X) (xs : List X) → RisesBehind cmp before (x ∷ xs) → (comes_after cmp before x ≡ true) × Rises cmp (x ∷ xs)
  follows None x xs rises = (refl, rises)
  follows (Some before) x xs rises = (ap is_lt rises.0, rises.1)

  goes_on : (before : Option X) (x : X) (xs : List X) → comes_after cmp before x ≡ true → Rises cmp (x ∷ xs) → RisesBehind cmp before (x ∷ xs)
  goes_on None x xs after rises = rises
  goes_on (Some before) x xs after rises = (less_from_test (cmp before x) after, rises)

-- a test that was passed
pub passed : {X : Type 0} (test : Bool) (reading : Reading X) (error : CodecError) (bytes : List ℕ) (read : X × List ℕ) → (cond test reading (fails error)) bytes ≡ Ok read
    → (test ≡ true) × (reading bytes ≡ Ok read)
passed true reading error bytes read is = (refl, is)
passed false reading error bytes read is = absurd (cc)

pub not_failed : {X : Type 0} (test : Bool) (reading : Reading X) (error : CodecError) (bytes : List ℕ) (read : X × List ℕ) → (cond test (fails error) reading) bytes ≡ Ok read
    → (test ≡ false) × (reading bytes ≡ Ok read)
not_failed true reading error bytes read is = absurd (cc)
not_failed false reading error bytes read is = (refl, is)

module _ {X : Type 0} (Is : X → Type 0) (spelling : X → List ℕ) (element : Reading X) (agrees : Agrees Is spelling element) where
  pub several_back : (xs : List X) (rest : List ℕ) → AllByRecursion Is xs → several (length xs) element (flat_map spelling xs ++ rest) ≡ Ok (xs, rest)
  several_back [] rest each = refl
  several_back (x ∷ xs) rest each =
      let first = agrees.back x (flat_map spelling xs ++ rest) each.0 in
      let others = several_back xs rest each.1 in
      ap (λ bytes. several (suc (length xs)) element bytes) (append_assoc (spelling x) (flat_map spelling xs) rest)
      ∙ ap (λ read. go_on read (λ y. next (several (length xs) element) (λ ys. always (y ∷ ys)))) first
      ∙ ap (λ read. go_on read (λ ys. always (x ∷ ys))) others

  pub several_only : (count : ℕ) (bytes : List ℕ) (xs : List X) (rest : List ℕ) → AreBytes bytes → several count element bytes ≡ Ok (xs, rest)
      → (length xs ≡ count) × AllByRecursion Is xs × (bytes ≡ flat_map spelling xs ++ rest)
  several_only zero bytes xs rest are is =
      let same = same_read [] xs bytes rest is in
      subst (λ ys. (length ys ≡ 0) × AllByRecursion Is ys × (bytes ≡ flat_map spelling ys ++ rest)) same.0 (refl, tt, same.1)
  several_only (suc count) bytes xs rest are is =
      let w = went_on (element bytes) (λ y. next (several count element) (λ ys. always (y ∷ ys))) (xs, rest) is in
      let v = went_on (several count element w.0.1) (λ ys. always (w.0.0 ∷ ys)) (xs, rest) w.2 in
      let first = exactly Is spelling element agrees bytes w.0.0 w.0.1 are w.1 in
      let are_rest : AreBytes w.0.1 = bytes_behind (spelling w.0.0) w.0.1 (subst AreBytes first.1 are) in
      let others = several_only count w.0.1 v.0.0 v.0.1 are_rest v.1 in
      let same = same_read (w.0.0 ∷ v.0.0) xs v.0.1 rest v.2 in
      let parts : bytes ≡ (spelling w.0.0 ++ flat_map spelling v.0.0) ++ v.0.1 = first.1 ∙ ap (λ l. spelling w.0.0 ++ l) others.2 ∙ sym (append_assoc (spelling w.0.0) (flat_map spelling v.0.0) v.0.1) in
      subst (λ ys. (length ys ≡ suc count) × AllByRecursion Is ys × (bytes ≡ flat_map spelling ys ++ rest)) same.0
      (ap suc others.0, (first.0, others.1), parts ∙ ap (λ l. (spelling w.0.0 ++ flat_map spelling v.0.0) ++ l) same.1)

  module _ (cmp : X → X → Ordering) where
    pub rising_back : (before : Option X) (xs : List X) (rest : List ℕ) → AllByRecursion Is xs → RisesBehind cmp before xs
        → rising cmp element before (length xs) (flat_map spelling xs ++ rest) ≡ Ok (xs, rest)
    rising_back before [] rest each rises = refl
    rising_back before (x ∷ xs) rest each rises =
        let first = agrees.back x (flat_map spelling xs ++ rest) each.0 in
        let f = follows cmp before x xs rises in
        let others = rising_back (Some x) xs rest each.1 f.1 in
        ap (λ bytes. rising cmp element before (suc (length xs)) bytes) (append_assoc (spelling x) (flat_map spelling xs) rest)
        ∙ ap (λ read. go_on read (λ y. cond (comes_after cmp before y) (next (rising cmp element (Some y) (length xs)) (λ ys. always (y ∷ ys))) (fails Order))) first
        ∙ ap (λ test. (cond test (next (rising cmp element (Some x) (length xs)) (λ ys. always (x ∷ ys))) (fails Order)) (flat_map spelling xs ++ rest)) f.0
        ∙ ap (λ read. go_on read (λ ys. always (x ∷ ys))) others

    pub rising_only : (before : Option X) (count : ℕ) (bytes : List ℕ) (xs : List X) (rest : List ℕ) → AreBytes bytes → rising cmp element before count bytes ≡ Ok (xs, rest)
        → (length xs ≡ count) × AllByRecursion Is xs × RisesBehind cmp before xs × (bytes ≡ flat_map spelling xs ++ rest)
    rising_only before zero bytes xs rest are is =
        let same = same_read [] xs bytes rest is in
        subst (λ ys. (length ys ≡ 0) × AllByRecursion Is ys × RisesBehind cmp before ys × (bytes ≡ flat_map spelling ys ++ rest)) same.0 (refl, tt, starts cmp before, same.1)
    rising_only before (suc count) bytes xs rest are is =
        let w = went_on (element bytes) (λ y. cond (comes_after cmp before y) (next (rising cmp element (Some y) count) (λ ys. always (y ∷ ys))) (fails Order)) (xs, rest) is in
        let p = passed (comes_after cmp before w.0.0) (next (rising cmp element (Some w.0.0) count) (λ ys. always (w.0.0 ∷ ys))) Order w.0.1 (xs, rest) w.2 in
        let v = went_on (rising cmp element (Some w.0.0) count w.0.1) (λ ys. always (w.0.0 ∷ ys)) (xs, rest) p.1 in
        let first = exactly Is spelling element agrees bytes w.0.0 w.0.1 are w.1 in
        let are_rest : AreBytes w.0.1 = bytes_behind (spelling w.0.0) w.0.1 (subst AreBytes first.1 are) in
        let others = rising_only (Some w.0.0) count w.0.1 v.0.0 v.0.1 are_rest v.1 in
        let same = same_read (w.0.0 ∷ v.0.0) xs v.0.1 rest v.2 in
        let parts : bytes ≡ (spelling w.0.0 ++ flat_map spelling v.0.0) ++ v.0.1 = first.1 ∙ ap (λ l. spelling w.0.0 ++ l) others.3 ∙ sym (append_assoc (spelling w.0.0) (flat_map spelling v.0.0) v.0.1) in
        subst (λ ys. (length ys ≡ suc count) × AllByRecursion Is ys × RisesBehind cmp before ys × (bytes ≡ flat_map spelling ys ++ rest)) same.0
        (ap suc others.0, (first.0, others.1), goes_on cmp before w.0.0 v.0.0 p.0 others.2, parts ∙ ap (λ l. (spelling w.0.0 ++ flat_map spelling v.0.0) ++ l) same.1)

  -- as many elements as a number says, up to a greatest number
  pub counted_agrees : (width greatest limit : ℕ) (count_bytes : ℕ → List ℕ) → Agrees (λ n. n < limit) count_bytes (number width) → greatest < limit
      → Agrees (λ xs. (length xs ≤ greatest) × AllByRecursion Is xs) (λ xs. count_bytes (length xs) ++ flat_map spelling xs) (counted width greatest element)
  counted_agrees width greatest limit count_bytes counts small = record { back = back; only = only }
    where
      back : (xs : List X) (rest : List ℕ) → (length xs ≤ greatest) × AllByRecursion Is xs → counted width greatest element ((count_bytes (length xs) ++ flat_map spelling xs) ++ rest) ≡ Ok (xs, rest)
      back xs rest is =
          ap (λ bytes. counted width greatest element bytes) (append_assoc (count_bytes (length xs)) (flat_map spelling xs) rest)
          ∙ ap (λ read. go_on read (λ count. cond (ltb greatest count) (fails Range) (several count element))) (counts.back (length xs) (flat_map spelling xs ++ rest) (omega arith))
          ∙ ap (λ test. (cond test (fails Range) (several (length xs) element)) (flat_map spelling xs ++ rest)) (le-ltb greatest (length xs) is.0)
          ∙ several_back xs rest is.1

      only : (bytes : List ℕ) (v : List X) (rest : List ℕ) → AreBytes bytes → counted width greatest element bytes ≡ Ok (v, rest)
          → (xs : List X) × (xs ≡ v) × ((length xs ≤ greatest) × AllByRecursion Is xs) × (bytes ≡ (count_bytes (length xs) ++ flat_map spelling xs) ++ rest)
      only bytes v rest are is =
          let w = went_on (number width bytes) (λ count. cond (ltb greatest count) (fails Range) (several count element)) (v, rest) is in
          let p = not_failed (ltb greatest w.0.0) (several w.0.0 element) Range w.0.1 (v, rest) w.2 in
          let n = exactly (λ m. m < limit) count_bytes (number width) counts bytes w.0.0 w.0.1 are w.1 in
          let are_rest : AreBytes w.0.1 = bytes_behind (count_bytes w.0.0) w.0.1 (subst AreBytes n.1 are) in
          let xs = several_only w.0.0 w.0.1 v rest are_rest p.1 in
          let within : w.0.0 ≤ greatest = ltb-false greatest w.0.0 p.0 in
          let parts : bytes ≡ (count_bytes (length v) ++ flat_map spelling v) ++ rest =
          n.1 ∙ ap (λ l. count_bytes w.0.0 ++ l) xs.2 ∙ sym (append_assoc (count_bytes w.0.0) (flat_map spelling v) rest) ∙ ap (λ m. (count_bytes m ++ flat_map spelling v) ++ rest) (sym xs.0) in
          (v, refl, (omega (arith, xs.0), xs.1), parts)

  -- in rising order
  pub list_agrees : (cmp : X → X → Ordering) → Agrees (λ n. n < 2 ^ 32) (little_bytes 4) (number 4) → Agrees (IsList Is cmp) (list_bytes spelling) (list cmp element)
  list_agrees cmp counts = record { back = back; only = only }
    where
      back : (xs : List X) (rest : List ℕ) → IsList Is cmp xs → list cmp element (list_bytes spelling xs ++ rest) ≡ Ok (xs, rest)
      back xs rest is =
          ap (λ bytes. list cmp element bytes) (append_assoc (little_bytes 4 (length xs)) (flat_map spelling xs) rest)
          ∙ ap (λ read. go_on read (rising cmp element None)) (counts.back (length xs) (flat_map spelling xs ++ rest) is.few)
          ∙ rising_back cmp None xs rest is.each is.rises

      only : (bytes : List ℕ) (v : List X) (rest : List ℕ) → AreBytes bytes → list cmp element bytes ≡ Ok (v, rest)
          → (xs : List X) × (xs ≡ v) × IsList Is cmp xs × (bytes ≡ list_bytes spelling xs ++ rest)
      only bytes v rest are is =
          let w = went_on (number 4 bytes) (rising cmp element None) (v, rest) is in
          let n = exactly (λ m. m < 2 ^ 32) (little_bytes 4) (number 4) counts bytes w.0.0 w.0.1 are w.1 in
          let are_rest : AreBytes w.0.1 = bytes_behind (little_bytes 4 w.0.0) w.0.1 (subst AreBytes n.1 are) in
          let xs = rising_only cmp None w.0.0 w.0.1 v rest are_rest w.2 in
          let parts : bytes ≡ list_bytes spelling v ++ rest =
          n.1 ∙ ap (λ l. little_bytes 4 w.0.0 ++ l) xs.3 ∙ sym (append_assoc (little_bytes 4 w.0.0) (flat_map spelling v) rest) ∙ ap (λ m. (little_bytes 4 m ++ flat_map spelling v) ++ rest) (sym xs.0) in
          (v, refl, record { few = omega (arith, xs.0, n.0); each = xs.1; rises = xs.2 }, parts)
