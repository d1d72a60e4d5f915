-- The first records among some bytes, passed one after another.
use Rattle.std.proofs.Common.{◌≡◌, ◌≤◌, ◌<◌, ◌+◌, ◌-◌, ℕ, zero, suc, List, [], ◌∷◌, ◌++◌, length, take, drop, set, refl, sym, ap, subst, ◌∙◌, arith}
use Rattle.std.proofs.lemmas.List.{append_assoc, length-append, length-drop, drop-drop, drop-set-add, take-append-drop}
use Rattle.std.proofs.lemmas.List.Elements.{All-take}
use Rattle.std.proofs.lemmas.Grind.{flat_map-append}
use Rattle.std.proofs.Math.Seq.{drop-append_seam, set-append_seam}
use Rattle.journal.specs.Records.{StandsFor, IsShort, record_of, records, without_gate}
use Rattle.journal.specs.WholeRecords.{BeginsWith, BeginsWithNone, FirstLeadsOthers, BeginWithFirst, OneInFront, ClosedBeginsNone}

-- of the first `count` payloads, `left` are still to be passed: they are the first of those that the bytes from `end` on stand for
pub record ArePassed (bytes : List ℕ) (count left end : ℕ) (payloads : List (List ℕ)) : Type 0 where
  pub more : List (List ℕ)
  pub stands : StandsFor (drop end bytes) more
  pub ends : length (records (take count payloads)) ≡ end + length (records (take left more))

pub none_passed : (bytes : List ℕ) (count : ℕ) (payloads : List (List ℕ)) → StandsFor bytes payloads → ArePassed bytes count count 0 payloads
none_passed bytes count payloads stands = record { more = payloads; stands = stands; ends = omega arith }

-- no record is left
pub all_passed : BeginWithFirst → (bytes : List ℕ) (count left end : ℕ) (payloads : List (List ℕ)) → BeginsWithNone (drop end bytes) → ArePassed bytes count left end payloads
    → end ≡ length (records (take count payloads))
all_passed begin bytes count left end payloads none passed = by passed.more passed.stands passed.ends
  where
    by : (more : List (List ℕ)) → StandsFor (drop end bytes) more → length (records (take count payloads)) ≡ end + length (records (take left more)) → end ≡ length (records (take count payloads))
    by [] stands ends = no_more left ends
      where
        no_more : (n : ℕ) → length (records (take count payloads)) ≡ end + length (records (take n [])) → end ≡ length (records (take count payloads))
        no_more zero is = omega (arith, is)
        no_more (suc n) is = omega (arith, is)
    by (first ∷ others) stands ends = absurd (none first (begin (drop end bytes) first others stands))

pub enough_passed : (bytes : List ℕ) (count left end : ℕ) (payloads : List (List ℕ)) → left ≡ 0 → ArePassed bytes count left end payloads → end ≡ length (records (take count payloads))
enough_passed bytes count left end payloads none passed = omega (arith, passed.ends, ap (λ (n : ℕ). length (records (take n passed.more))) none)

module _ (lead : FirstLeadsOthers) (begin : BeginWithFirst) (once : OneInFront) (closes : ClosedBeginsNone) where
  -- one more is passed
  pub one_passed : (bytes payload : List ℕ) (count left end : ℕ) (payloads : List (List ℕ)) → 0 < left → BeginsWith payload (drop end bytes) → ArePassed bytes count left end payloads
      → ArePassed bytes count (left - 1) (end + length (record_of payload)) payloads
  one_passed bytes payload count left end payloads some begins passed = by passed.more passed.stands passed.ends
    where
      behind : drop (end + length (record_of payload)) bytes ≡ begins.gate ∷ begins.rest
      behind = sym (drop-drop (length (record_of payload)) end bytes) ∙ ap (drop (length (record_of payload))) begins.spelled ∙ drop-append_seam (record_of payload) (begins.gate ∷ begins.rest)

      by : (more : List (List ℕ)) → StandsFor (drop end bytes) more → length (records (take count payloads)) ≡ end + length (records (take left more))
          → ArePassed bytes count (left - 1) (end + length (record_of payload)) payloads
      by [] stands ends = absurd (closes (drop end bytes) stands payload begins)
      by (first ∷ others) stands ends =
          let same : first ≡ payload = once (drop end bytes) first payload (begin (drop end bytes) first others stands) begins in
          let here : StandsFor (record_of payload ++ begins.gate ∷ begins.rest) (payload ∷ others) =
          subst (λ (list : List ℕ). StandsFor list (payload ∷ others)) begins.spelled (subst (λ (one : List ℕ). StandsFor (drop end bytes) (one ∷ others)) same stands) in
          let one_less : left ≡ suc (left - 1) = omega (arith, some) in
          let longer : length (records (take left (first ∷ others))) ≡ length (record_of payload) + length (records (take (left - 1) others)) =
          ap (λ (n : ℕ). length (records (take n (first ∷ others)))) one_less ∙ length-append (record_of first) (records (take (left - 1) others))
          ∙ ap (λ (one : List ℕ). length (record_of one) + length (records (take (left - 1) others))) same in
          record {
            more = others;
            stands = subst (λ (list : List ℕ). StandsFor list others) (sym behind) ((lead payload others (begins.gate ∷ begins.rest)).0 here).1;
            ends = omega (arith, ends, longer);
          }

-- ---- the gate behind them is closed

module _ (bytes : List ℕ) (start offset count : ℕ) (payloads : List (List ℕ)) (stands : StandsFor (drop start bytes) payloads) (is : offset ≡ length (records (take count payloads))) where
  -- something stands behind the first records
  some_behind : (others : List (List ℕ)) → (first : ℕ) × (rest : List ℕ) × (records others ++ stands.gate ∷ stands.rest ≡ first ∷ rest)
  some_behind [] = (stands.gate, stands.rest, refl)
  some_behind (payload ∷ others) = (1, without_gate payload ++ records others ++ stands.gate ∷ stands.rest, refl)

  behind_first : (first : ℕ) × (rest : List ℕ) × (drop start bytes ≡ records (take count payloads) ++ first ∷ rest)
  behind_first =
      let it = some_behind (drop count payloads) in
      let both : records payloads ≡ records (take count payloads) ++ records (drop count payloads) =
      ap records (sym (take-append-drop count payloads)) ∙ flat_map-append record_of (take count payloads) (drop count payloads) in (
        it.0,
        it.1,
        stands.spelled ∙ ap (λ (front : List ℕ). front ++ stands.gate ∷ stands.rest) both
            ∙ append_assoc (records (take count payloads)) (records (drop count payloads)) (stands.gate ∷ stands.rest)
            ∙ ap (λ (back : List ℕ). records (take count payloads) ++ back) it.2,
      )

  -- the gate is there
  pub gate_there : start ≤ length bytes → start + offset < length bytes
  gate_there within = omega (
    arith,
    within,
    is,
    length-drop start bytes,
    ap length behind_first.2,
    length-append (records (take count payloads)) (behind_first.0 ∷ behind_first.1),
  )

  pub gate_closed : StandsFor (drop start (set bytes (start + offset) 0)) (take count payloads)
  gate_closed = record {
    short = All-take IsShort count payloads stands.short;
    gate = 0;
    closed = omega arith;
    rest = behind_first.1;
    spelled = drop-set-add start bytes offset 0 ∙ (λ i. set (behind_first.2 i) (is i) 0)
        ∙ set-append_seam (records (take count payloads)) behind_first.0 behind_first.1 0;
  }
