-- The ways in which an instance moves from one state to another.
use Rattle.std.proofs.Common.{◌≡◌, ◌∙◌, ap, sym, refl, subst, ℕ, ◌+◌, ◌-◌, ◌<◌, ◌≤◌, min, ℤ, Bool, true, false, cond, List, ◌∷◌, length, Option, Some, None, is_some, Result, Ok, Err, OnOk, OnErr, is_ok, arith}
use Rattle.std.specs.Ordering.{eq_by_cmp}
use Rattle.std.specs.FinMap.{FinMap, entries, get, insert}
use Rattle.std.specs.List.Sorted.{IsPermutation}
use Rattle.std.proofs.lemmas.List.Sorted.{length_permutation, sum_by-IsPermutation}
use Rattle.terms.specs.Key.{key_cmp}
use Rattle.maps.specs.Keyed.{Keyed, Adds}
use Rattle.instances.specs.declared.state.State.{State}
use Rattle.instances.specs.declared.state.State.TheVariants.{Ready, Running, Waiting, Done}
use Rattle.instances.specs.OfStep.{OfStep, is_ready, is_running, one_if, times, IsKept, IsWaiting, Moves, AddsInstance}
use Rattle.instances.proofs.Counted.{one_counts, one_fewer}
use Rattle.instances.proofs.Kept.{Keys, at_key, kept, as_many, one_more, times_put_first, times_taken, stood}

-- an instance that is counted as ready is ready
only_ready : (o : Option State) → 1 ≤ one_if is_ready o → o ≡ Some Ready
only_ready None one = absurd (omega (arith, one))
only_ready (Some Ready) one = refl
only_ready (Some Running) one = absurd (omega (arith, one))
only_ready (Some (Waiting address)) one = absurd (omega (arith, one))
only_ready (Some Done) one = absurd (omega (arith, one))

no_more : (q key : List ℤ) → at_key q key 0 ≡ 0
no_more q key = same (eq_by_cmp key_cmp q key)
  where
    nothing : ℕ
    nothing = 0

    same : (b : Bool) → cond b nothing nothing ≡ nothing
    same true = refl
    same false = refl

pub waits_not_ready : (o : Option State) → IsWaiting o → (one_if is_ready o ≡ 0) × (one_if is_running o ≡ 0) × (is_some o ≡ true)
waits_not_ready None is = absurd is
waits_not_ready (Some Ready) is = absurd is
waits_not_ready (Some Running) is = absurd is
waits_not_ready (Some Done) is = absurd is
waits_not_ready (Some (Waiting address)) is = (refl, refl, refl)

waits_at_some : (o : Option State) → IsWaiting o → (s : State) × (o ≡ Some s) × (is_ready s ≡ false)
waits_at_some None is = absurd is
waits_at_some (Some Ready) is = absurd is
waits_at_some (Some Running) is = absurd is
waits_at_some (Some Done) is = absurd is
waits_at_some (Some (Waiting address)) is = (Waiting address, refl, refl)

module _ (states : FinMap key_cmp State) (key : List ℤ) (ready : Keys) (running capacity : ℕ) (is : IsKept states ready running capacity) where
  -- if an instance runs, the count is not 0
  pub one_runs : get states key ≡ Some Running → 1 ≤ running
  one_runs there = omega (arith, is.counted, one_counts is_running states key Running there refl)

  -- if an instance is not ready, there is room for it among the ready ones
  pub has_room : (s : State) → get states key ≡ Some s → is_ready s ≡ false → length ready < capacity
  has_room s there other = omega (arith, is.all_listed, one_fewer is_ready states key s there other, is.enough)

  pub waiting_has_room : IsWaiting (get states key) → length ready < capacity
  waiting_has_room waits = let some = waits_at_some (get states key) waits in has_room some.0 some.1 some.2

  -- an instance that runs ends, or waits
  pub stops : (to : State) → get states key ≡ Some Running → is_ready to ≡ false → is_running to ≡ false → IsKept (insert states key to) ready (running - 1) capacity
  stops to there not_ready not_running =
      let was = ap (one_if is_ready) there in
      let now : one_if is_ready (Some to) ≡ 0 = ap (λ b. cond b 1 0) not_ready in
      let runs = ap (one_if is_running) there in
      let rests : one_if is_running (Some to) ≡ 0 = ap (λ b. cond b 1 0) not_running in
      kept states key to ready running capacity is ready (running - 1)
      (λ q. ap (λ n. times q ready + at_key q key n) (was ∙ sym now))
      (omega (arith, was, now))
      (omega (arith, runs, rests, one_runs there))
      (omega (arith, as_many states key to ready running capacity is (ap is_some there), is.enough))

  -- an instance that is not ready becomes ready
  back : (new_running : ℕ) → one_if is_ready (get states key) ≡ 0 → new_running + one_if is_running (get states key) ≡ running → is_some (get states key) ≡ true → IsKept (insert states key Ready) (key ∷ ready) new_running capacity
  back new_running was runs there =
      kept states key Ready ready running capacity is (key ∷ ready) new_running
      (λ q. omega (arith, times_put_first q key ready, ap (at_key q key) was, no_more q key))
      (omega (arith, was))
      (omega (arith, runs))
      (omega (arith, as_many states key Ready ready running capacity is there, is.enough))

  pub comes_back : get states key ≡ Some Running → IsKept (insert states key Ready) (key ∷ ready) (running - 1) capacity
  comes_back there = back (running - 1) (ap (one_if is_ready) there) (omega (arith, ap (one_if is_running) there, one_runs there)) (ap is_some there)

  pub wakes : IsWaiting (get states key) → IsKept (insert states key Ready) (key ∷ ready) running capacity
  wakes waits = let none = waits_not_ready (get states key) waits in back running none.0 (omega (arith, none.1)) none.2

  -- an instance that is taken out of the ready ones was ready
  pub is_one : (left : Keys) → IsPermutation ready (key ∷ left) → get states key ≡ Some Ready
  is_one left taken = only_ready (get states key) (omega (arith, stood ready left key taken, is.listed key))

  pub starts : (left : Keys) → IsPermutation ready (key ∷ left) → IsKept (insert states key Running) left (running + 1) capacity
  starts left taken =
      let state = is_one left taken in
      let was = ap (one_if is_ready) state in
      kept states key Running ready running capacity is left (running + 1)
      (λ q. omega (arith, times_taken q key ready left taken, ap (at_key q key) was, no_more q key))
      (omega (arith, was, length_permutation ready (key ∷ left) taken))
      (omega (arith, ap (one_if is_running) state))
      (omega (arith, as_many states key Running ready running capacity is (ap is_some state), is.enough))

  -- a new instance is ready
  pub comes : get states key ≡ None → length (entries states) + 1 ≤ capacity → IsKept (insert states key Ready) (key ∷ ready) running capacity
  comes gone enough =
      kept states key Ready ready running capacity is (key ∷ ready) running
      (λ q. omega (arith, times_put_first q key ready, ap (at_key q key) (ap (one_if is_ready) gone), no_more q key))
      (omega (arith, ap (one_if is_ready) gone))
      (omega (arith, ap (one_if is_running) gone))
      (omega (arith, one_more states key Ready ready running capacity is gone, enough))

  -- a new instance is done
  pub comes_done : get states key ≡ None → length (entries states) + 1 ≤ capacity → IsKept (insert states key Done) ready running capacity
  comes_done gone enough =
      kept states key Done ready running capacity is ready running
      (λ q. ap (λ n. times q ready + at_key q key n) (ap (one_if is_ready) gone))
      (omega (arith, ap (one_if is_ready) gone))
      (omega (arith, ap (one_if is_running) gone))
      (omega (arith, one_more states key Done ready running capacity is gone, enough))

-- ---- what is seen of it

abbrev pub seen_of : Keyed State → ℕ → OfStep
seen_of states capacity = record { states = states.items; room = min states.room (capacity - length (entries states.items)) }

module _ (old new : Keyed State) (capacity : ℕ) (now : OfStep) (key : List ℤ) (is : seen_of old capacity ≡ now) where
  pub moves : (to : State) (ready : Keys) (running : ℕ) → IsKept old.items ready running capacity → is_some (get old.items key) ≡ true → new ≡ record { items = insert old.items key to; room = old.room } → Moves now (seen_of new capacity) key to
  moves to ready running kept there news =
      subst (λ seen. Moves seen (seen_of new capacity) key to) is (record {
        states = ap (λ s. s.items) news;
        room = ap (λ s. min s.room (capacity - length (entries s.items))) news ∙ ap (λ n. min old.room (capacity - n)) (as_many old.items key to ready running capacity kept there);
      })

  -- one more instance is seen, and room for one less
  pub adds :
      (state : State) (ready : Keys) (running : ℕ) → IsKept old.items ready running capacity → Adds old new key state → get now.states key ≡ None → 0 < now.room →
      AddsInstance now (seen_of new capacity) key state × (get old.items key ≡ None) × (length (entries old.items) + 1 ≤ capacity)
  adds state ready running kept added gone room =
      let absent = ap (λ seen. get seen.states key) is ∙ gone in
      let some : 0 < min old.room (capacity - length (entries old.items)) = subst (λ seen. 0 < seen.room) (sym is) room in
      let more = ap (λ items. length (entries items)) added.items ∙ one_more old.items key state ready running capacity kept absent in (
        subst (λ seen. AddsInstance seen (seen_of new capacity) key state) is (record {
          states = added.items;
          room = omega (arith, more, added.lower (omega (arith, some)), some);
        }),
        absent,
        omega (arith, some),
      )

  pub adds_ready : (ready : Keys) (running : ℕ) → IsKept old.items ready running capacity → Adds old new key Ready → get now.states key ≡ None → 0 < now.room → IsKept new.items (key ∷ ready) running capacity
  adds_ready ready running kept added gone room =
      let found = adds Ready ready running kept added gone room in
      subst (λ items. IsKept items (key ∷ ready) running capacity) (sym added.items) (comes old.items key ready running capacity kept found.1 found.2)

  pub adds_done : (ready : Keys) (running : ℕ) → IsKept old.items ready running capacity → Adds old new key Done → get now.states key ≡ None → 0 < now.room → IsKept new.items ready running capacity
  adds_done ready running kept added gone room =
      let found = adds Done ready running kept added gone room in
      subst (λ items. IsKept items ready running capacity) (sym added.items) (comes_done old.items key ready running capacity kept found.1 found.2)

pub when_ok : {T E P : Type 0} (r : Result T E) → OnOk r P → true ≡ is_ok r → P
when_ok (Ok done) holds ok = holds
when_ok (Err error) holds ok = absurd (cc)

-- what follows from what each outcome says
pub if_ok : {T E P Q : Type 0} (r : Result T E) → (P → Q) → OnOk r P → OnOk r Q
if_ok (Ok done) follows holds = follows holds
if_ok (Err error) follows holds = tt

pub if_err : {T E P Q : Type 0} (r : Result T E) → (P → Q) → OnErr r P → OnErr r Q
if_err (Ok done) follows holds = tt
if_err (Err error) follows holds = follows holds

-- either way the instance moved to some state
pub moves_somewhere : {T E : Type 0} (r : Result T E) (old new : OfStep) (key : List ℤ) (one two : State) → OnOk r (Moves old new key one) → OnErr r (Moves old new key two) → (to : State) × Moves old new key to
moves_somewhere (Ok done) old new key one two ok refused = (one, ok)
moves_somewhere (Err error) old new key one two ok refused = (two, refused)

-- the order in which the ready instances stand does not count
pub in_any_order : (states : FinMap key_cmp State) (ready sorted : Keys) (running capacity : ℕ) → IsKept states ready running capacity → IsPermutation ready sorted → IsKept states sorted running capacity
in_any_order states ready sorted running capacity is permuted = record {
  listed = λ q. omega (arith, sum_by-IsPermutation (λ k. cond (eq_by_cmp key_cmp q k) 1 0) ready sorted permuted, is.listed q);
  all_listed = omega (arith, length_permutation ready sorted permuted, is.all_listed);
  counted = is.counted;
  enough = is.enough;
}
