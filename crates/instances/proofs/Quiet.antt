-- If no instance passes a test, the count is 0, and the other way round.
use Rattle.std.proofs.Common.{◌≡◌, ◌∙◌, ◌↔◌, ap, sym, refl, ℕ, zero, suc, ℤ, T, Bool, true, false, cond, List, [], ◌∷◌, sum_by, slice_get, Some, is_some, IsTrue, arith}
use mathlib.Core.Bool.{false≢true}
use Rattle.std.specs.Option.{unwrap_or}
use Rattle.std.specs.Ordering.{is_eq, eq_by_cmp}
use Rattle.std.specs.Cmp.{Equal-is}
use Rattle.std.specs.FinMap.{FinMap, entries, entries_sorted, find, get, get-entries, is_sorted}
use Rattle.std.specs.FinMap.Entries.{below_all}
use Rattle.std.proofs.lemmas.Cmp.{tied_itself}
use Rattle.terms.specs.Key.{key_cmp}
use Rattle.maps.specs.PlaceOrder.{keys_total, same_key}
use Rattle.terms.specs.declared.name.Inst.{Inst}
use Rattle.instances.specs.declared.state.State.{State}
use Rattle.instances.specs.declared.step.Step.{Step}
use Rattle.instances.specs.Known.{Known, instance_at, state_at, state_in, total, NoneIsActive}
use Rattle.instances.specs.OfStep.{how_many, is_ready, is_running}
use Rattle.instances.proofs.Below.{first, second, none_below}
use Rattle.instances.proofs.Counted.{Entry, weight, number, front}

no_weight : (b : Bool) → number b ≡ 0 → b ≡ false
no_weight true none = absurd (omega (arith, none))
no_weight false none = refl

module _ (test : State → Bool) where
  -- if the count over some entries is 0, an entry that is found among them fails the test
  fails : (es : List Entry) (key : List ℤ) (state : State) → sum_by (weight test) es ≡ 0 → find key_cmp key es ≡ Some state → test state ≡ false
  fails [] key state none there = absurd (cc)
  fails (e ∷ es) key state none there =
      let split = front (weight test) e es in
      by_test (omega (arith, none, split)) (eq_by_cmp key_cmp key e.0) (fails es key state (omega (arith, none, split))) there
    where
      by_test : weight test e ≡ 0 → (t : Bool) → (find key_cmp key es ≡ Some state → test state ≡ false) → cond t (Some e.1) (find key_cmp key es) ≡ Some state → test state ≡ false
      by_test here true rest is = ap test (sym (ap (λ o. unwrap_or o state) is)) ∙ no_weight (test e.1) here
      by_test here false rest is = rest is

  none_counted : (states : FinMap key_cmp State) (key : List ℤ) (state : State) → how_many test states ≡ 0 → get states key ≡ Some state → test state ≡ false
  none_counted states key state none there = fails (entries states) key state none (sym (get-entries states key) ∙ there)

  -- an entry that is found after the first is found in the whole list
  later : (e : Entry) (es : List Entry) (key : List ℤ) (state : State) → T (below_all key_cmp e.0 es) → find key_cmp key es ≡ Some state → find key_cmp key (e ∷ es) ≡ Some state
  later e es key state below there = by_test (eq_by_cmp key_cmp key e.0) refl
    where
      by_test : (t : Bool) → eq_by_cmp key_cmp key e.0 ≡ t → cond t (Some e.1) (find key_cmp key es) ≡ Some state
      by_test true tied =
          let same = same_key key e.0 ((Equal-is (key_cmp key e.0)).0 tied) in
          absurd (false≢true (ap is_some (sym (ap (λ k. find key_cmp k es) same ∙ none_below key_cmp e.0 es below) ∙ there)))
      by_test false apart = there

  -- if all entries fail the test, the count is 0
  all_fail : (es : List Entry) → T (is_sorted key_cmp es) → ((key : List ℤ) (state : State) → find key_cmp key es ≡ Some state → test state ≡ false) → sum_by (weight test) es ≡ 0
  all_fail [] sorted each = refl
  all_fail (e ∷ es) sorted each =
      let below = first (below_all key_cmp e.0 es) (is_sorted key_cmp es) sorted in
      let here : test e.1 ≡ false = each e.0 e.1 (ap (λ r. cond (is_eq r) (Some e.1) (find key_cmp e.0 es)) (tied_itself keys_total e.0)) in
      let rest = all_fail es (second (below_all key_cmp e.0 es) (is_sorted key_cmp es) sorted) (λ key state there. each key state (later e es key state below there)) in
      omega (arith, front (weight test) e es, ap number here, rest)

  abbrev here : Step → ℕ
  here step = how_many test step.instances.states

  none_of_all : (steps : List Step) (n : ℕ) (key : List ℤ) (state : State) → sum_by here steps ≡ 0 → state_in (slice_get steps n) key ≡ Some state → test state ≡ false
  none_of_all [] n key state none there = absurd (cc)
  none_of_all (step ∷ steps) zero key state none there = none_counted step.instances.states key state (omega (arith, none, front here step steps)) there
  none_of_all (step ∷ steps) (suc n) key state none there = none_of_all steps n key state (omega (arith, none, front here step steps)) there

  pub all_of_none : (steps : List Step) → ((n : ℕ) (key : List ℤ) (state : State) → state_in (slice_get steps n) key ≡ Some state → test state ≡ false) → sum_by here steps ≡ 0
  all_of_none [] each = refl
  all_of_none (step ∷ steps) each =
      let states = step.instances.states in
      let first_none = all_fail (entries states) (entries_sorted states) (λ key state there. each 0 key state (get-entries states key ∙ there)) in
      let others = all_of_none steps (λ n key state there. each (suc n) key state there) in
      omega (arith, front here step steps, first_none, others)

  -- the count is 0 exactly when each instance fails the test
  pub counted_none : (known : Known) → (total test known ≡ 0) ↔ ((instance : Inst) (state : State) → state_at known instance ≡ Some state → test state ≡ false)
  counted_none known = (
    λ none instance state there. none_of_all known.steps instance.collection.0 instance.key state none there,
    λ each. all_of_none known.steps (λ n key state there. each (instance_at n key) state there),
  )

-- a test of both counts says whether no instance is ready or runs
pub quiet : (known : Known) (b : Bool) → (b ≡ true → (total is_ready known ≡ 0) × (total is_running known ≡ 0)) → (total is_ready known ≡ 0 → total is_running known ≡ 0 → b ≡ true) → IsTrue b ↔ NoneIsActive known
quiet known b tells told = (
  λ is instance state there.
      let none = tells is in (
        none_of_all is_ready known.steps instance.collection.0 instance.key state none.0 there,
        none_of_all is_running known.steps instance.collection.0 instance.key state none.1 there,
      ),
  λ none. told
      (all_of_none is_ready known.steps (λ n key state there. (none (instance_at n key) state there).0))
      (all_of_none is_running known.steps (λ n key state there. (none (instance_at n key) state there).1)),
)
