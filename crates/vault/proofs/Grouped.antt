-- How a commit is cut into groups.
use Rattle.std.proofs.Common.{◌≡◌, ◌+◌, ◌*◌, ◌≤◌, ◌<◌, ◌++◌, ◌-◌, ◌%◌, ◌/◌, ℕ, Bool, List, [], ◌∷◌, length, take, drop, map, refl, ap, subst, sym, ◌∙◌, inl, inr, arith, append_assoc, length-drop, take-append-drop}
use Rattle.std.proofs.lemmas.List.{drop-drop, length-take-le}
use Rattle.std.specs.Prelude.{⊤, cond, suc}
use Rattle.std.specs.List.{AllByRecursion}
use Rattle.std.proofs.lemmas.Bool.{cases_lt, lt-ltb, le-ltb}
use Rattle.terms.specs.declared.event.Event.{Event}
use Rattle.terms.specs.Commits.{Commit, events_of}
use Rattle.codec.specs.Commits.{commit_bytes}
use Rattle.journal.specs.Records.{record_of, records}
use Rattle.vault.specs.Groups.{in_front, groups_of, records_of}

-- ---- an event in front

-- the first group has room, or is full
has_room : (event : Event) (group : Commit) (groups : List Commit) → length group < 64 → in_front event (group ∷ groups) ≡ (event ∷ group) ∷ groups
has_room event group groups room = ap (λ (less : Bool). cond less ((event ∷ group) ∷ groups) ((event ∷ []) ∷ group ∷ groups)) (lt-ltb (length group) 64 room)

is_full : (event : Event) (group : Commit) (groups : List Commit) → 64 ≤ length group → in_front event (group ∷ groups) ≡ (event ∷ []) ∷ group ∷ groups
is_full event group groups full = ap (λ (less : Bool). cond less ((event ∷ group) ∷ groups) ((event ∷ []) ∷ group ∷ groups)) (le-ltb (length group) 64 full)

-- ---- the events of the groups

events_in_front : (event : Event) (groups : List Commit) → events_of (in_front event groups) ≡ event ∷ events_of groups
events_in_front event [] = refl
events_in_front event (group ∷ groups) = elim (cases_lt (length group) 64) [
  | inl room ↦ ap events_of (has_room event group groups room)
  | inr full ↦ ap events_of (is_full event group groups full)
]

-- the events of a commit's groups, in order, are those of the commit
pub same_events : (commit : Commit) → events_of (groups_of commit) ≡ commit
same_events [] = refl
same_events (event ∷ events) = events_in_front event (groups_of events) ∙ ap (λ (list : List Event). event ∷ list) (same_events events)

-- ---- the first group

-- the first of these groups has all of this many events but for full groups
abbrev FirstHasRest : ℕ → List Commit → Type 0
FirstHasRest count [] = count ≡ 0
FirstHasRest count (group ∷ groups) = (full : ℕ) × (count ≡ full * 64 + length group) × (1 ≤ length group) × (length group ≤ 64)

rest_in_front : (event : Event) (count : ℕ) (groups : List Commit) → FirstHasRest count groups → FirstHasRest (suc count) (in_front event groups)
rest_in_front event count [] none = (0, omega (arith, none), omega arith, omega arith)
rest_in_front event count (group ∷ groups) it = elim (cases_lt (length group) 64) [
  | inl room ↦ subst (FirstHasRest (suc count)) (sym (has_room event group groups room)) (it.0, omega (arith, it.1), omega arith, omega (arith, room))
  | inr full ↦ subst (FirstHasRest (suc count)) (sym (is_full event group groups full)) (it.0 + 1, omega (arith, it.1, it.3, full), omega arith, omega arith)
]

first_has_rest : (commit : Commit) → FirstHasRest (length commit) (groups_of commit)
first_has_rest [] = refl
first_has_rest (event ∷ events) = rest_in_front event (length events) (groups_of events) (first_has_rest events)

-- if the events are so many times 64, the first group is full
abbrev FirstIsFull : List Commit → Type 0
FirstIsFull [] = ⊤
FirstIsFull (group ∷ groups) = length group ≡ 64

full_by : (count times : ℕ) (groups : List Commit) → FirstHasRest count groups → count ≡ times * 64 → FirstIsFull groups
full_by count times [] it is = tt
full_by count times (group ∷ groups) it is = omega (arith, it.1, it.2, it.3, is)

-- one event in front of full groups is a group of its own
one_alone : (event : Event) (groups : List Commit) → FirstIsFull groups → in_front event groups ≡ (event ∷ []) ∷ groups
one_alone event [] full = refl
one_alone event (group ∷ groups) full = is_full event group groups (omega (arith, full))

leads_full : (front rest : List Event) → 1 ≤ length front → length front ≤ 64 → FirstIsFull (groups_of rest) → groups_of (front ++ rest) ≡ front ∷ groups_of rest
leads_full [] rest some few full = absurd (omega (arith, some))
leads_full (event ∷ []) rest some few full = one_alone event (groups_of rest) full
leads_full (event ∷ next ∷ front) rest some few full =
    ap (in_front event) (leads_full (next ∷ front) rest (omega arith) (omega (arith, few)) full) ∙ has_room event (next ∷ front) (groups_of rest) (omega (arith, few))

-- up to 64 events in front of some groups of 64 are the first group
pub leads : (front rest : List Event) (times : ℕ) → 1 ≤ length front → length front ≤ 64 → length rest ≡ times * 64 → groups_of (front ++ rest) ≡ front ∷ groups_of rest
leads front rest times some few is = leads_full front rest some few (full_by (length rest) times (groups_of rest) (first_has_rest rest) is)

-- ---- one group after another

-- the group from `start` to `end`, if all the others are to be full
module _ (commit : Commit) (start end : ℕ) (more : start < length commit) (ends : end ≡ start + ((length commit - start - 1) % 64 + 1)) where
  pub within : end ≤ length commit
  within = omega (arith, more, ends)

  abbrev pub piece : Commit
  piece = take (end - start) (drop start commit)

  next_group : groups_of (drop start commit) ≡ piece ∷ groups_of (drop end commit)
  next_group =
      let left = drop start commit in
      let left_is : length left ≡ length commit - start = length-drop start commit in
      let piece_is : length piece ≡ end - start = length-take-le (end - start) left (omega (arith, left_is, within, more)) in
      let rest_is : length (drop (end - start) left) ≡ length left - (end - start) = length-drop (end - start) left in
      let reached : start + (end - start) ≡ end = omega (arith, ends) in
      ap groups_of (sym (take-append-drop (end - start) left))
      ∙ leads piece (drop (end - start) left) ((length commit - start - 1) / 64) (omega (arith, piece_is, ends)) (omega (arith, piece_is, ends)) (omega (arith, rest_is, left_is, ends, more))
      ∙ ap (λ (rest : List Event). piece ∷ groups_of rest) (drop-drop (end - start) start commit ∙ ap (λ (n : ℕ). drop n commit) reached)

  -- its record was spelled after those of the groups before it
  pub spelled_on : (first old new : List ℕ) → new ≡ old ++ record_of (commit_bytes piece) → old ++ records_of (drop start commit) ≡ first ++ records_of commit
      → new ++ records_of (drop end commit) ≡ first ++ records_of commit
  spelled_on first old new spelled so_far =
      let rest = records_of (drop end commit) in
      ap (λ (bytes : List ℕ). bytes ++ rest) spelled ∙ append_assoc old (record_of (commit_bytes piece)) rest
      ∙ ap (λ (groups : List Commit). old ++ records (map commit_bytes groups)) (sym next_group) ∙ so_far

  pub in_range_on : (P : Commit → Type 0) → P piece → AllByRecursion P (groups_of (drop end commit)) → AllByRecursion P (groups_of (drop start commit))
  in_range_on P it others = subst (AllByRecursion P) (sym next_group) (it, others)

-- ---- how many bytes they are

some_in_front : (event : Event) (groups : List Commit) → 1 ≤ length (records (map commit_bytes (in_front event groups)))
some_in_front event [] = omega arith
some_in_front event (group ∷ groups) = elim (cases_lt (length group) 64) [
  | inl room ↦ subst HasRecords (sym (has_room event group groups room)) (omega arith)
  | inr full ↦ subst HasRecords (sym (is_full event group groups full)) (omega arith)
]
  where
    HasRecords : List Commit → Type 0
    HasRecords groups = 1 ≤ length (records (map commit_bytes groups))

-- a commit of some events has some bytes
pub some_bytes : (commit : Commit) → 1 ≤ length commit → 1 ≤ length (records_of commit)
some_bytes [] some = absurd (omega (arith, some))
some_bytes (event ∷ events) some = some_in_front event (groups_of events)
