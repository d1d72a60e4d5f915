-- Payloads are read as the commits that they spell.
use Rattle.std.proofs.Common.{◌≡◌, ◌≢◌, ◌<◌, ◌≤◌, ◌+◌, ◌-◌, ◌^◌, ℕ, suc, zero, cond, ltb, inl, inr, List, [], ◌∷◌, ◌++◌, length, drop, Result, Ok, refl, sym, ap, subst, ◌∙◌, arith, append_assoc}
use Rattle.std.specs.List.{flat_map, AllByRecursion}
use Rattle.std.proofs.lemmas.Bool.{cases_lt, ltb-false, lt-ltb, le-ltb}
use Rattle.byteorder.specs.Endian.{little_bytes}
use Rattle.terms.specs.declared.key.TheConstants.{MAX_COMPONENTS}
use Rattle.terms.specs.declared.event.Event.{Event}
use Rattle.terms.specs.declared.event.Event.TheVariants.{EnvItem, EnvTag, Done, Stopped}
use Rattle.terms.specs.Commits.{Commit}
use Rattle.codec.specs.declared.error.CodecError.{CodecError}
use Rattle.codec.specs.declared.error.CodecError.TheVariants.{Range}
use Rattle.codec.specs.declared.payload.TheConstants.{MOST_EVENTS}
use Rattle.codec.specs.Commits.{commit_bytes, IsCommit, GroupOfOneSpellsNone}
use Rattle.codec.specs.Laws.{AreBytes}
use Rattle.codec.specs.Spelling.{event_bytes, IsEvent}
use Rattle.codec.specs.Reading.{Reading, go_on, always, fails, number, several, chosen, numbered, kinds, event, alone, group, payload_kinds, payload}
use Rattle.codec.proofs.Agreeing.{Agrees, exactly, went_on, same_read, bytes_behind}
use Rattle.codec.proofs.ChoiceLaws.{at_place, some_place}
use Rattle.codec.proofs.EventLaws.{event_agrees}
use Rattle.codec.proofs.ListLaws.{not_failed, several_back, several_only}
use Rattle.codec.proofs.NumberLaws.{number_agrees, wide_2}

-- a kind other than a group is read as an event, and that event alone is the commit
pub alone_at : (most place : ℕ) (bytes : List ℕ) → place ≢ 4 → chosen (payload_kinds most) place bytes ≡ alone (chosen (kinds most) place) bytes
alone_at most zero bytes other = refl
alone_at most (suc zero) bytes other = refl
alone_at most (suc (suc zero)) bytes other = refl
alone_at most (suc (suc (suc zero))) bytes other = refl
alone_at most (suc (suc (suc (suc zero)))) bytes other = absurd (other refl)
alone_at most (suc (suc (suc (suc (suc place))))) bytes other = refl

numbered_alone : (most kind : ℕ) (bytes : List ℕ) → kind ≢ 5 → numbered 1 (payload_kinds most) kind bytes ≡ alone (numbered 1 (kinds most) kind) bytes
numbered_alone most kind bytes other = elim (cases_lt kind 1) [
  | inl low ↦ rw (lt-ltb kind 1 low) refl
  | inr from ↦ rw (le-ltb kind 1 from) (alone_at most (kind - 1) bytes (λ four. other (omega arith)))
]

-- a kind that is no group's, and then what is left of an event
pub alone_read : (most kind : ℕ) (bytes after : List ℕ) (read : Result (Commit × List ℕ) CodecError)
    → Ok (kind, after) ≡ number 1 bytes → kind ≢ 5 → read ≡ alone (numbered 1 (kinds most) kind) after → read ≡ payload most bytes
alone_read most kind bytes after read is other same =
    let one : payload most bytes ≡ numbered 1 (payload_kinds most) kind after = rw (← is) refl in
    same ∙ sym (one ∙ numbered_alone most kind after other)

-- what follows the number of a group's events
abbrev pub counted_events : ℕ → ℕ → Reading Commit
counted_events most count = cond (ltb count 2) (fails Range) (cond (ltb MOST_EVENTS count) (fails Range) (several count (event most)))

-- a number of events that a group may have, and then these
pub group_read : (most : ℕ) (bytes after : List ℕ) (count : ℕ) (read : Result (Commit × List ℕ) CodecError)
    → Ok (count, after) ≡ number 2 bytes → 2 ≤ count → count ≤ MOST_EVENTS → read ≡ several count (event most) after → read ≡ group most bytes
group_read most bytes after count read is from to same =
    let one : group most bytes ≡ several count (event most) after = rw (← is, le-ltb count 2 from, le-ltb MOST_EVENTS count to) refl in
    same ∙ sym one

module _ (most : ℕ) (few : most ≤ MAX_COMPONENTS) where
  -- ---- groups

  group_back : (commit : Commit) (rest : List ℕ) → 2 ≤ length commit → length commit ≤ MOST_EVENTS → AllByRecursion (IsEvent most) commit
      → group most (little_bytes 2 (length commit) ++ flat_map event_bytes commit ++ rest) ≡ Ok (commit, rest)
  group_back commit rest several_events few_events each =
      let count = length commit in
      ap (group most) (append_assoc (little_bytes 2 count) (flat_map event_bytes commit) rest)
      ∙ ap (λ read. go_on read (counted_events most)) ((number_agrees 2 wide_2).back count (flat_map event_bytes commit ++ rest) (omega arith))
      ∙ ap (λ test. (cond test (fails Range) (cond (ltb MOST_EVENTS count) (fails Range) (several count (event most)))) (flat_map event_bytes commit ++ rest)) (le-ltb count 2 several_events)
      ∙ ap (λ test. (cond test (fails Range) (several count (event most))) (flat_map event_bytes commit ++ rest)) (le-ltb MOST_EVENTS count few_events)
      ∙ several_back (IsEvent most) event_bytes (event most) (event_agrees most few) commit rest each

  group_only : (bytes : List ℕ) (commit : Commit) (rest : List ℕ) → AreBytes bytes → group most bytes ≡ Ok (commit, rest)
      → (2 ≤ length commit) × (length commit ≤ MOST_EVENTS) × AllByRecursion (IsEvent most) commit × (bytes ≡ (little_bytes 2 (length commit) ++ flat_map event_bytes commit) ++ rest)
  group_only bytes commit rest are is =
      let w = went_on (number 2 bytes) (counted_events most) (commit, rest) is in
      let count = w.0.0 in
      let after = w.0.1 in
      let low = not_failed (ltb count 2) (cond (ltb MOST_EVENTS count) (fails Range) (several count (event most))) Range after (commit, rest) w.2 in
      let high = not_failed (ltb MOST_EVENTS count) (several count (event most)) Range after (commit, rest) low.1 in
      let first = exactly (λ n. n < 256 ^ 2) (little_bytes 2) (number 2) (number_agrees 2 wide_2) bytes count after are w.1 in
      let are_after : AreBytes after = bytes_behind (little_bytes 2 count) after (subst AreBytes first.1 are) in
      let events = several_only (IsEvent most) event_bytes (event most) (event_agrees most few) count after commit rest are_after high.1 in
      let counted : count ≡ length commit = sym events.0 in
      let from : 2 ≤ count = ltb-false count 2 low.0 in
      let to : count ≤ MOST_EVENTS = ltb-false MOST_EVENTS count high.0 in
      let spelled : bytes ≡ little_bytes 2 count ++ (flat_map event_bytes commit ++ rest) = first.1 ∙ ap (λ (l : List ℕ). little_bytes 2 count ++ l) events.2 in (
        subst (λ (n : ℕ). 2 ≤ n) counted from,
        subst (λ (n : ℕ). n ≤ MOST_EVENTS) counted to,
        events.1,
        spelled ∙ ap (λ (n : ℕ). little_bytes 2 n ++ (flat_map event_bytes commit ++ rest)) counted ∙ sym (append_assoc (little_bytes 2 (length commit)) (flat_map event_bytes commit) rest),
      )

  -- ---- payloads

  -- bytes that are read as an event are read as the commit of it alone
  payload_of_event : (bytes : List ℕ) (e : Event) (rest : List ℕ) → event most bytes ≡ Ok (e, rest) → payload most bytes ≡ Ok (e ∷ [], rest)
  payload_of_event bytes e rest is =
      let there = some_place 1 (kinds most) bytes (e, rest) is in
      let place = there.0 in
      let tail = there.1 in
      let other : place ≢ 4 = λ four. absurd (no_group tail (sym (ap (λ (p : ℕ). chosen (kinds most) p tail) four) ∙ there.3)) in
      let back : place + 1 - 1 ≡ place = omega arith in
      ap (payload most) there.2 ∙ at_place 1 (payload_kinds most) (place + 1) tail (omega arith)
      ∙ ap (λ (p : ℕ). chosen (payload_kinds most) p tail) back ∙ alone_at most place tail other
      ∙ ap (λ read. go_on read (λ x. always (x ∷ []))) there.3
    where
      no_group : (tail : List ℕ) → chosen (kinds most) 4 tail ≡ Ok (e, rest) → ⊥
      no_group tail read = absurd (cc)

  pub payload_agrees : Agrees (IsCommit most) commit_bytes (payload most)
  payload_agrees = record { back = back; only = only }
    where
      back : (c : Commit) (rest : List ℕ) → IsCommit most c → payload most (commit_bytes c ++ rest) ≡ Ok (c, rest)
      back [] rest is = absurd (let some : 1 ≤ 0 = is.some in omega arith)
      back (e ∷ []) rest is = payload_of_event (event_bytes e ++ rest) e rest ((event_agrees most few).back e rest is.each.0)
      back (first ∷ second ∷ more) rest is =
          at_place 1 (payload_kinds most) 5 (little_bytes 2 (length (first ∷ second ∷ more)) ++ flat_map event_bytes (first ∷ second ∷ more) ++ rest) (omega arith)
          ∙ group_back (first ∷ second ∷ more) rest (omega arith) is.few is.each

      grouped : (c : Commit) (tail rest : List ℕ) → (2 ≤ length c) × (length c ≤ MOST_EVENTS) × AllByRecursion (IsEvent most) c × (tail ≡ (little_bytes 2 (length c) ++ flat_map event_bytes c) ++ rest)
          → IsCommit most c × (5 ∷ tail ≡ commit_bytes c ++ rest)
      grouped [] tail rest found = absurd (let two : 2 ≤ 0 = found.0 in omega arith)
      grouped (e ∷ []) tail rest found = absurd (let two : 2 ≤ 1 = found.0 in omega arith)
      grouped (first ∷ second ∷ more) tail rest found = (record { some = omega arith; few = found.1; each = found.2 }, ap (λ (l : List ℕ). 5 ∷ l) found.3)

      single : (c : Commit) (place : ℕ) (tail rest : List ℕ) → AreBytes ((place + 1) ∷ tail) → alone (chosen (kinds most) place) tail ≡ Ok (c, rest) → IsCommit most c × ((place + 1) ∷ tail ≡ commit_bytes c ++ rest)
      single c place tail rest are is =
          let w = went_on (chosen (kinds most) place tail) (λ x. always (x ∷ [])) (c, rest) is in
          let same = same_read (w.0.0 ∷ []) c w.0.1 rest w.2 in
          let back : place + 1 - 1 ≡ place = omega arith in
          let read : event most ((place + 1) ∷ tail) ≡ Ok (w.0.0, w.0.1) = at_place 1 (kinds most) (place + 1) tail (omega arith) ∙ ap (λ (p : ℕ). chosen (kinds most) p tail) back ∙ w.1 in
          let found = exactly (IsEvent most) event_bytes (event most) (event_agrees most few) ((place + 1) ∷ tail) w.0.0 w.0.1 are read in
          subst (λ x. IsCommit most x × ((place + 1) ∷ tail ≡ commit_bytes x ++ rest)) same.0
          (record { some = omega arith; few = omega arith; each = (found.0, tt) }, found.1 ∙ ap (λ (l : List ℕ). event_bytes w.0.0 ++ l) same.1)

      at : (place : ℕ) (tail : List ℕ) (c : Commit) (rest : List ℕ) → AreBytes ((place + 1) ∷ tail) → chosen (payload_kinds most) place tail ≡ Ok (c, rest) → IsCommit most c × ((place + 1) ∷ tail ≡ commit_bytes c ++ rest)
      at zero tail c rest are is = single c 0 tail rest are is
      at (suc zero) tail c rest are is = single c 1 tail rest are is
      at (suc (suc zero)) tail c rest are is = single c 2 tail rest are is
      at (suc (suc (suc zero))) tail c rest are is = single c 3 tail rest are is
      at (suc (suc (suc (suc zero)))) tail c rest are is = grouped c tail rest (group_only tail c rest are.1 is)
      at (suc (suc (suc (suc (suc place))))) tail c rest are is = absurd (cc)

      only : (bytes : List ℕ) (c : Commit) (rest : List ℕ) → AreBytes bytes → payload most bytes ≡ Ok (c, rest) → (x : Commit) × (x ≡ c) × IsCommit most x × (bytes ≡ commit_bytes x ++ rest)
      only bytes c rest are is =
          let there = some_place 1 (payload_kinds most) bytes (c, rest) is in
          let found = at there.0 there.1 c rest (subst AreBytes there.2 are) there.3 in
          (c, refl, found.0, there.2 ∙ found.1)

  -- ---- a group of one

  no_event : (e : Event) (tail : List ℕ) → 5 ∷ tail ≡ event_bytes e → ⊥
  no_event (EnvItem a v) tail same = absurd (cc)
  no_event (EnvTag t) tail same = absurd (cc)
  no_event (Done i puts) tail same = absurd (cc)
  no_event (Stopped i kind) tail same = absurd (cc)

  pub group_of_one : GroupOfOneSpellsNone most
  group_of_one e [] spells = let some : 1 ≤ 0 = spells.0.some in absurd (omega arith)
  group_of_one e (x ∷ []) spells = no_event x _ spells.1
  group_of_one e (first ∷ second ∷ more) spells =
      let others = first ∷ second ∷ more in
      let tails : little_bytes 2 1 ++ flat_map event_bytes (e ∷ []) ≡ little_bytes 2 (length others) ++ flat_map event_bytes others = ap (drop 1) spells.1 in
      let small : length others < 256 ^ 2 = omega (arith, spells.0.few) in
      let same = same_read 1 (length others) (flat_map event_bytes (e ∷ [])) (flat_map event_bytes others)
      (sym ((number_agrees 2 wide_2).back 1 (flat_map event_bytes (e ∷ [])) (omega arith)) ∙ ap (number 2) tails ∙ (number_agrees 2 wide_2).back (length others) (flat_map event_bytes others) small) in
      let one : 1 ≡ length others = same.0 in
      absurd (omega arith)
