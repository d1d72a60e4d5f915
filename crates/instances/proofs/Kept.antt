-- What is kept beside the states stays right when an instance moves from one state to another.
use Rattle.std.proofs.Common.{◌≡◌, ◌∙◌, ap, sym, refl, subst, ℕ, ◌+◌, ◌≤◌, ℤ, Bool, true, false, cond, List, [], ◌∷◌, length, Some, None, is_some, arith}
use Rattle.std.specs.Ordering.{eq_by_cmp}
use Rattle.std.specs.Cmp.{Equal-is, eq_by_cmp_equiv}
use Rattle.std.specs.FinMap.{FinMap, empty, entries, get, get-empty, get-insert, get_tied, insert, len, len-empty, len-entries, len-insert}
use Rattle.std.specs.List.Sorted.{IsPermutation}
use Rattle.std.proofs.lemmas.List.Sums.{count_by-le-length, sum_by-append}
use Rattle.std.proofs.lemmas.List.Sorted.{sum_by-IsPermutation}
use Rattle.terms.specs.Key.{key_cmp}
use Rattle.maps.specs.PlaceOrder.{keys_total}
use Rattle.instances.specs.declared.state.State.{State}
use Rattle.instances.specs.OfStep.{is_ready, is_running, how_many, one_if, times, IsKept}
use Rattle.instances.proofs.Counted.{counted}

abbrev pub Keys : Type 0
Keys = List (List ℤ)

-- what one element adds to the number of times that a key is in a list
abbrev pub at_key : List ℤ → List ℤ → ℕ → ℕ
at_key q key count = cond (eq_by_cmp key_cmp q key) count 0

module _ (states : FinMap key_cmp State) (key : List ℤ) (to : State) (ready : Keys) (running capacity : ℕ) (is : IsKept states ready running capacity) where
  pub kept :
      (new_ready : Keys) (new_running : ℕ) →
      ((q : List ℤ) → times q new_ready + at_key q key (one_if is_ready (get states key)) ≡ times q ready + at_key q key (one_if is_ready (Some to))) →
      length new_ready + one_if is_ready (get states key) ≡ length ready + one_if is_ready (Some to) →
      new_running + one_if is_running (get states key) ≡ running + one_if is_running (Some to) →
      length (entries (insert states key to)) ≤ capacity → IsKept (insert states key to) new_ready new_running capacity
  kept new_ready new_running lists all runs enough = record {
    listed = λ q. by_key q (eq_by_cmp key_cmp q key) refl (lists q) ∙ sym (ap (one_if is_ready) (get-insert keys_total states key to q));
    all_listed = omega (arith, all, is.all_listed, counted is_ready states key to);
    counted = omega (arith, runs, is.counted, counted is_running states key to);
    enough = enough;
  }
    where
      by_key :
          (q : List ℤ) (b : Bool) → eq_by_cmp key_cmp q key ≡ b →
          times q new_ready + cond (eq_by_cmp key_cmp q key) (one_if is_ready (get states key)) 0 ≡ times q ready + cond (eq_by_cmp key_cmp q key) (one_if is_ready (Some to)) 0 →
          times q new_ready ≡ one_if is_ready (cond (eq_by_cmp key_cmp q key) (Some to) (get states q))
      by_key q true same lists =
          let tied : get states key ≡ get states q = get_tied keys_total states q key ((Equal-is (key_cmp q key)).0 same) in
          let here = subst (λ b. times q new_ready + cond b (one_if is_ready (get states key)) 0 ≡ times q ready + cond b (one_if is_ready (Some to)) 0) same lists in
          omega (arith, here, is.listed q, ap (one_if is_ready) tied) ∙ sym (ap (λ b. one_if is_ready (cond b (Some to) (get states q))) same)
      by_key q false other lists =
          let here = subst (λ b. times q new_ready + cond b (one_if is_ready (get states key)) 0 ≡ times q ready + cond b (one_if is_ready (Some to)) 0) other lists in
          omega (arith, here, is.listed q) ∙ sym (ap (λ b. one_if is_ready (cond b (Some to) (get states q))) other)

  -- an instance that was already there takes no more room
  pub as_many : is_some (get states key) ≡ true → length (entries (insert states key to)) ≡ length (entries states)
  as_many there = sym (len-entries (insert states key to)) ∙ len-insert keys_total states key to ∙ ap (λ b. cond b (len states) (len states + 1)) there ∙ len-entries states

  pub one_more : get states key ≡ None → length (entries (insert states key to)) ≡ length (entries states) + 1
  one_more gone = sym (len-entries (insert states key to)) ∙ len-insert keys_total states key to ∙ ap (λ o. cond (is_some o) (len states) (len states + 1)) gone ∙ ap (λ n. n + 1) (len-entries states)

-- one more key, and a key that is taken out
pub times_put_first : (q key : List ℤ) (keys : Keys) → times q (key ∷ keys) ≡ at_key q key 1 + times q keys
times_put_first q key keys = omega (arith, sum_by-append (λ k. cond (eq_by_cmp key_cmp q k) 1 0) (key ∷ []) keys)

pub times_taken : (q key : List ℤ) (keys left : Keys) → IsPermutation keys (key ∷ left) → at_key q key 1 + times q left ≡ times q keys
times_taken q key keys left taken =
    let one : List ℤ → ℕ = λ k. cond (eq_by_cmp key_cmp q k) 1 0 in
    omega (arith, sum_by-append one (key ∷ []) left, sum_by-IsPermutation one keys (key ∷ left) taken)

-- a key that was taken out of the list was in it
pub stood : (keys left : Keys) (key : List ℤ) → IsPermutation keys (key ∷ left) → 1 ≤ times key keys
stood keys left key taken = omega (arith, times_taken key key keys left taken, here)
  where
    here : at_key key key 1 ≡ 1
    here = ap (λ b. cond b 1 0) ((eq_by_cmp_equiv keys_total).refl key)

-- no instances
pub none_counted : (test : State → Bool) → how_many test empty ≡ 0
none_counted test = omega (arith, count_by-le-length (λ (entry : List ℤ × State). test entry.1) (entries (empty {X = State} {R = key_cmp})), len-entries (empty {X = State} {R = key_cmp}), len-empty key_cmp State)

pub kept_none : (capacity : ℕ) → IsKept empty [] 0 capacity
kept_none capacity = record {
  listed = λ q. sym (ap (one_if is_ready) (get-empty key_cmp q));
  all_listed = sym (none_counted is_ready);
  counted = sym (none_counted is_running);
  enough = omega (arith, sym (len-entries (empty {X = State} {R = key_cmp})), len-empty key_cmp State);
}
