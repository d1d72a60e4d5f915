-- How many instances wait is counted as they move; and how many are done follows from what is counted.
use Rattle.std.proofs.Common.{◌≡◌, ◌∙◌, ap, sym, refl, ℕ, ◌+◌, ◌-◌, ◌≤◌, ℤ, true, List, [], ◌∷◌, length, sum_by, Option, Some, None, arith}
use Rattle.std.specs.FinMap.{FinMap, entries, get, insert}
use Rattle.terms.specs.Key.{key_cmp}
use Rattle.maps.specs.Keyed.{Keyed, Adds}
use Rattle.instances.specs.declared.state.State.{State}
use Rattle.instances.specs.declared.state.State.TheVariants.{Ready, Running, Waiting, Done}
use Rattle.instances.specs.OfStep.{OfStep, is_ready, is_running, is_waiting, is_done, how_many, one_if, IsWaiting}
use Rattle.instances.proofs.Changes.{seen_of}
use Rattle.instances.proofs.Counted.{Entry, weight, front, counted, one_counts}

-- each instance is in one of the states
in_one : (key : List ℤ) (state : State) → weight is_ready (key, state) + weight is_running (key, state) + weight is_waiting (key, state) + weight is_done (key, state) ≡ 1
in_one key Ready = refl
in_one key Running = refl
in_one key (Waiting address) = refl
in_one key Done = refl

all_in_one : (es : List Entry) → sum_by (weight is_ready) es + sum_by (weight is_running) es + sum_by (weight is_waiting) es + sum_by (weight is_done) es ≡ length es
all_in_one [] = refl
all_in_one (e ∷ es) = omega (arith, all_in_one es, in_one e.0 e.1, front (weight is_ready) e es, front (weight is_running) e es, front (weight is_waiting) e es, front (weight is_done) e es)

-- so those that are done are the others
pub all_kinds : (states : FinMap key_cmp State) → how_many is_ready states + how_many is_running states + how_many is_waiting states + how_many is_done states ≡ length (entries states)
all_kinds states = all_in_one (entries states)

-- the count after an instance has moved
pub after : (states : FinMap key_cmp State) (key : List ℤ) (to : State) (old new : ℕ) → old ≡ how_many is_waiting states → new + one_if is_waiting (get states key) ≡ old + one_if is_waiting (Some to) → new ≡ how_many is_waiting (insert states key to)
after states key to old new is moved = omega (arith, is, moved, counted is_waiting states key to)

-- one that waits is counted
waits_once : (o : Option State) → IsWaiting o → one_if is_waiting o ≡ 1
waits_once None waits = absurd waits
waits_once (Some Ready) waits = absurd waits
waits_once (Some Running) waits = absurd waits
waits_once (Some Done) waits = absurd waits
waits_once (Some (Waiting address)) waits = refl

waits_at : (o : Option State) → IsWaiting o → (state : State) × (o ≡ Some state) × (is_waiting state ≡ true)
waits_at None waits = absurd waits
waits_at (Some Ready) waits = absurd waits
waits_at (Some Running) waits = absurd waits
waits_at (Some Done) waits = absurd waits
waits_at (Some (Waiting address)) waits = (Waiting address, refl, refl)

pub one_waits : (states : FinMap key_cmp State) (key : List ℤ) (waiting : ℕ) → waiting ≡ how_many is_waiting states → IsWaiting (get states key) → 1 ≤ waiting
one_waits states key waiting is waits = let at = waits_at (get states key) waits in omega (arith, is, one_counts is_waiting states key at.0 at.1 at.2)

-- one fewer waits once one was woken
pub one_less : (states : FinMap key_cmp State) (key : List ℤ) (waiting : ℕ) → waiting ≡ how_many is_waiting states → IsWaiting (get states key) → waiting - 1 ≡ how_many is_waiting (insert states key Ready)
one_less states key waiting is waits = after states key Ready waiting (waiting - 1) is (omega (arith, waits_once (get states key) waits, one_waits states key waiting is waits))

-- as many wait where an instance that does not wait moves to a state in which it does not
pub as_many_wait : (states : FinMap key_cmp State) (key : List ℤ) (to : State) (waiting : ℕ) → waiting ≡ how_many is_waiting states → one_if is_waiting (get states key) ≡ 0 → one_if is_waiting (Some to) ≡ 0 → waiting ≡ how_many is_waiting (insert states key to)
as_many_wait states key to waiting is was now = after states key to waiting waiting is (omega (arith, was, now))

-- and where an instance is added that does not wait
pub waits_added : (old new : Keyed State) (capacity : ℕ) (now : OfStep) (key : List ℤ) → seen_of old capacity ≡ now → (state : State) (waiting : ℕ) → waiting ≡ how_many is_waiting old.items → Adds old new key state → get now.states key ≡ None → one_if is_waiting (Some state) ≡ 0 → waiting ≡ how_many is_waiting new.items
waits_added old new capacity now key seen state waiting is added gone plain =
    let absent = ap (λ s. get s.states key) seen ∙ gone in
    as_many_wait old.items key state waiting is (ap (one_if is_waiting) absent) plain ∙ ap (how_many is_waiting) (sym added.items)
