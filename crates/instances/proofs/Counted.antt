-- The number of entries of a map that pass a test, before and after a write.
use Rattle.std.proofs.Common.{◌≡◌, ◌∙◌, ap, sym, refl, subst, ℕ, suc, ◌+◌, ◌≤◌, ℤ, T, Bool, true, false, cond, List, [], ◌∷◌, length, sum_by, Some, arith}
use Rattle.std.specs.Option.{unwrap_or}
use Rattle.std.specs.declared.cmp.Ordering.{Ordering}
use Rattle.std.specs.declared.cmp.Ordering.TheVariants.{Less, Equal, Greater}
use Rattle.std.specs.Ordering.{is_eq, eq_by_cmp}
use Rattle.std.specs.FinMap.{FinMap, entries, entries_sorted, entries-insert, find, get, get-entries, insert, put, is_sorted}
use Rattle.std.specs.FinMap.Entries.{below_all, by_order}
use Rattle.std.proofs.lemmas.List.Sums.{sum_by-append}
use Rattle.terms.specs.Key.{key_cmp}
use Rattle.maps.specs.PlaceOrder.{keys_total}
use Rattle.instances.specs.declared.state.State.{State}
use Rattle.instances.specs.OfStep.{how_many, one_if}
use Rattle.instances.proofs.Below.{first, second, none_before}

abbrev pub Entry : Type 0
Entry = List ℤ × State

abbrev pub weight : (State → Bool) → Entry → ℕ
weight test e = cond (test e.1) 1 0

abbrev pub number : Bool → ℕ
number b = cond b 1 0

-- a sum is the first element's part and the sum over the rest
pub front : {X : Type 0} (f : X → ℕ) (x : X) (xs : List X) → sum_by f (x ∷ xs) ≡ f x + sum_by f xs
front f x xs = omega (arith, sum_by-append f (x ∷ []) xs)

next_one : (all sum : ℕ) → all ≡ sum → 1 ≤ sum → 1 ≤ all
next_one all sum is one = omega (arith, is, one)

next_more : (all sum c : ℕ) → all ≡ sum → sum + 1 ≤ c + 1 → all + 1 ≤ suc c
next_more all sum c is more = omega (arith, is, more)

next_at_most : (all a b c : ℕ) → all ≡ a + b → a ≤ 1 → b ≤ c → all ≤ suc c
next_at_most all a b c is one rest = omega (arith, is, one, rest)

in_front : (all old v found : ℕ) → all ≡ v + old → found ≡ 0 → all + found ≡ old + v
in_front all old v found is none = omega (arith, is, none)

in_place : (all old v e rest : ℕ) → all ≡ v + rest → old ≡ e + rest → all + e ≡ old + v
in_place all old v e rest is was = omega (arith, is, was)

behind : (all old e put found rest v : ℕ) → all ≡ e + put → old ≡ e + rest → put + found ≡ rest + v → all + found ≡ old + v
behind all old e put found rest v is was same = omega (arith, is, was, same)

bit : (b : Bool) → cond b 1 0 ≤ 1
bit true = omega arith
bit false = omega arith

module _ (test : State → Bool) where
  at_most : (es : List Entry) → sum_by (weight test) es ≤ length es
  at_most [] = omega arith
  at_most (e ∷ es) = next_at_most _ (weight test e) (sum_by (weight test) es) (length es) (front (weight test) e es) (bit (test e.1)) (at_most es)

  counted_put : (es : List Entry) (k : List ℤ) (v : State) → T (is_sorted key_cmp es) → sum_by (weight test) (put key_cmp k v es) + one_if test (find key_cmp k es) ≡ sum_by (weight test) es + cond (test v) 1 0
  counted_put [] k v sorted = omega arith
  counted_put (e ∷ es) k v sorted = by_cases (counted_put es k v (second (below_all key_cmp e.0 es) _ sorted)) (key_cmp k e.0) refl
    where
      by_cases : sum_by (weight test) (put key_cmp k v es) + one_if test (find key_cmp k es) ≡ sum_by (weight test) es + cond (test v) 1 0 → (r : Ordering) → key_cmp k e.0 ≡ r → sum_by (weight test) (by_order (key_cmp k e.0) ((k, v) ∷ e ∷ es) ((e.0, v) ∷ es) (e ∷ put key_cmp k v es)) + one_if test (cond (is_eq (key_cmp k e.0)) (Some e.1) (find key_cmp k es)) ≡ sum_by (weight test) (e ∷ es) + cond (test v) 1 0
      by_cases rest Less is =
          let gone = none_before keys_total k e.0 es is (first _ _ sorted) in
          subst (λ r. sum_by (weight test) (by_order r ((k, v) ∷ e ∷ es) ((e.0, v) ∷ es) (e ∷ put key_cmp k v es)) + one_if test (cond (is_eq r) (Some e.1) (find key_cmp k es)) ≡ sum_by (weight test) (e ∷ es) + cond (test v) 1 0) (sym is)
          (in_front _ (sum_by (weight test) (e ∷ es)) (cond (test v) 1 0) _ (front (weight test) (k, v) (e ∷ es)) (ap (one_if test) gone))
      by_cases rest Equal is =
          subst (λ r. sum_by (weight test) (by_order r ((k, v) ∷ e ∷ es) ((e.0, v) ∷ es) (e ∷ put key_cmp k v es)) + one_if test (cond (is_eq r) (Some e.1) (find key_cmp k es)) ≡ sum_by (weight test) (e ∷ es) + cond (test v) 1 0) (sym is)
          (in_place _ (sum_by (weight test) (e ∷ es)) (cond (test v) 1 0) (weight test e) (sum_by (weight test) es) (front (weight test) (e.0, v) es) (front (weight test) e es))
      by_cases rest Greater is =
          subst (λ r. sum_by (weight test) (by_order r ((k, v) ∷ e ∷ es) ((e.0, v) ∷ es) (e ∷ put key_cmp k v es)) + one_if test (cond (is_eq r) (Some e.1) (find key_cmp k es)) ≡ sum_by (weight test) (e ∷ es) + cond (test v) 1 0) (sym is)
          (behind _ (sum_by (weight test) (e ∷ es)) (weight test e) (sum_by (weight test) (put key_cmp k v es)) (one_if test (find key_cmp k es)) (sum_by (weight test) es) (cond (test v) 1 0) (front (weight test) e (put key_cmp k v es)) (front (weight test) e es) rest)

  -- an entry that is written is counted in place of the one that was there
  pub counted : (m : FinMap key_cmp State) (k : List ℤ) (v : State) → how_many test (insert m k v) + one_if test (get m k) ≡ how_many test m + one_if test (Some v)
  counted m k v =
      omega (arith, counted_put (entries m) k v (entries_sorted m), ap (sum_by (weight test)) (entries-insert keys_total m k v), ap (one_if test) (get-entries m k))

  found_count : (es : List Entry) (k : List ℤ) (v : State) → find key_cmp k es ≡ Some v → (test v ≡ true → 1 ≤ sum_by (weight test) es) × (test v ≡ false → sum_by (weight test) es + 1 ≤ length es)
  found_count [] k v found = absurd (cc)
  found_count (e ∷ es) k v found =
      let both = here (found_count es k v) (eq_by_cmp key_cmp k e.0) found in
      (λ counts. next_one _ _ (front (weight test) e es) (both.0 counts), λ passes. next_more _ _ (length es) (front (weight test) e es) (both.1 passes))
    where
      here : (find key_cmp k es ≡ Some v → (test v ≡ true → 1 ≤ sum_by (weight test) es) × (test v ≡ false → sum_by (weight test) es + 1 ≤ length es)) → (b : Bool) → cond b (Some e.1) (find key_cmp k es) ≡ Some v → (test v ≡ true → 1 ≤ weight test e + sum_by (weight test) es) × (test v ≡ false → (weight test e + sum_by (weight test) es) + 1 ≤ length es + 1)
      here others true is =
          let same : e.1 ≡ v = ap (λ o. unwrap_or o v) is in
          let one : test v ≡ true → weight test e ≡ 1 = λ counts. ap number (ap test same ∙ counts) in
          let none : test v ≡ false → weight test e ≡ 0 = λ passes. ap number (ap test same ∙ passes) in
          (λ counts. omega (arith, one counts), λ passes. omega (arith, none passes, at_most es))
      here others false is =
          let rest = others is in
          (λ counts. omega (arith, rest.0 counts), λ passes. omega (arith, rest.1 passes, bit (test e.1)))

  -- if an entry that is there passes the test, the count is at least 1
  pub one_counts : (m : FinMap key_cmp State) (k : List ℤ) (v : State) → get m k ≡ Some v → test v ≡ true → 1 ≤ how_many test m
  one_counts m k v is = (found_count (entries m) k v (sym (get-entries m k) ∙ is)).0

  pub one_fewer : (m : FinMap key_cmp State) (k : List ℤ) (v : State) → get m k ≡ Some v → test v ≡ false → how_many test m + 1 ≤ length (entries m)
  one_fewer m k v is = (found_count (entries m) k v (sym (get-entries m k) ∙ is)).1
