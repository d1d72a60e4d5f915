-- All instances are in order, and each is found among them with its state.
use Rattle.std.proofs.Common.{◌≡◌, ◌≢◌, ◌∙◌, ap, sym, refl, subst, ℕ, zero, suc, ◌+◌, ◌<◌, T, true, false, cond, List, [], ◌∷◌, ◌++◌, map, slice_get, Some, None, arith}
use Rattle.std.specs.declared.cmp.Ordering.{Ordering}
use Rattle.std.specs.declared.cmp.Ordering.TheVariants.{Less, Equal, Greater}
use Rattle.std.specs.Ordering.{is_lt, is_eq, eq_by_cmp, nat_cmp, ordering_then}
use Rattle.std.specs.Cmp.{nat_cmp_total, nat_cmp_is}
use Rattle.std.specs.FinMap.{IsAntisymmetric, nat_cmp-IsAntisymmetric, entries, entries_sorted, find, get-entries, is_sorted}
use Rattle.std.specs.FinMap.Entries.{below_all}
use Rattle.std.proofs.lemmas.Cmp.{tied_itself}
use Rattle.terms.specs.Key.{key_cmp}
use Rattle.terms.specs.Name.{inst_cmp}
use Rattle.terms.specs.declared.name.Inst.{Inst}
use Rattle.maps.specs.PlaceOrder.{same_key}
use Rattle.instances.specs.declared.state.State.{State}
use Rattle.instances.specs.declared.step.Step.{Step}
use Rattle.instances.specs.Known.{Known, instance_at, state_in, state_at}
use Rattle.instances.specs.AllInstances.{placed, instances_from, all_instances}
use Rattle.instances.proofs.Below.{first, second, both}
use Rattle.instances.proofs.Counted.{Entry}

-- ---- the step's number decides

same_step : (a b : Inst) → a.collection.0 ≡ b.collection.0 → inst_cmp a b ≡ key_cmp a.key b.key
same_step a b same = ap (λ r. ordering_then r (key_cmp a.key b.key)) (ap (nat_cmp a.collection.0) (sym same) ∙ tied_itself nat_cmp_total a.collection.0)

earlier_step : (a b : Inst) → a.collection.0 < b.collection.0 → inst_cmp a b ≡ Less
earlier_step a b lower = ap (λ r. ordering_then r (key_cmp a.key b.key)) (sym (nat_cmp_is a.collection.0 b.collection.0 Less lower))

apart : (r s : Ordering) → r ≢ Equal → is_eq (ordering_then r s) ≡ false
apart Less s differs = refl
apart Equal s differs = absurd (differs refl)
apart Greater s differs = refl

other_step : (a b : Inst) → a.collection.0 ≢ b.collection.0 → eq_by_cmp inst_cmp a b ≡ false
other_step a b differs = apart (nat_cmp a.collection.0 b.collection.0) (key_cmp a.key b.key) (λ tie. differs (nat_cmp-IsAntisymmetric _ _ tie))

-- an instance ties only with itself
both_tie : (r s : Ordering) → ordering_then r s ≡ Equal → (r ≡ Equal) × (s ≡ Equal)
both_tie Less s tie = absurd (cc)
both_tie Equal s tie = (refl, tie)
both_tie Greater s tie = absurd (cc)

pub same_instance : IsAntisymmetric inst_cmp
same_instance a b tie =
    let parts = both_tie (nat_cmp a.collection.0 b.collection.0) (key_cmp a.key b.key) tie in
    λ i. instance_at (nat_cmp-IsAntisymmetric a.collection.0 b.collection.0 parts.0 i) (same_key a.key b.key parts.1 i)

-- ---- each is found with its state

-- `find` in two lists, one of which does not have the instance
module _ (a : Inst) where
  in_second : (xs ys : List (Inst × State)) → find inst_cmp a xs ≡ None → find inst_cmp a (xs ++ ys) ≡ find inst_cmp a ys
  in_second [] ys none = refl
  in_second (x ∷ xs) ys none =
      elim (eq_by_cmp inst_cmp a x.0) as (λ b. cond b (Some x.1) (find inst_cmp a xs) ≡ None → cond b (Some x.1) (find inst_cmp a (xs ++ ys)) ≡ find inst_cmp a ys) [
        | true ↦ λ there. absurd (cc)
        | false ↦ λ rest. in_second xs ys rest
      ] none

  in_first : (xs ys : List (Inst × State)) → find inst_cmp a ys ≡ None → find inst_cmp a (xs ++ ys) ≡ find inst_cmp a xs
  in_first [] ys none = none
  in_first (x ∷ xs) ys none = ap (cond (eq_by_cmp inst_cmp a x.0) (Some x.1)) (in_first xs ys none)

  find_same : (number : ℕ) → a.collection.0 ≡ number → (es : List Entry) → find inst_cmp a (map (placed number) es) ≡ find key_cmp a.key es
  find_same number same [] = refl
  find_same number same (e ∷ es) =
      ap (λ r. cond (is_eq r) (Some e.1) (find inst_cmp a (map (placed number) es))) (same_step a (instance_at number e.0) same)
      ∙ ap (cond (eq_by_cmp key_cmp a.key e.0) (Some e.1)) (find_same number same es)

  find_other : (number : ℕ) → a.collection.0 ≢ number → (es : List Entry) → find inst_cmp a (map (placed number) es) ≡ None
  find_other number differs [] = refl
  find_other number differs (e ∷ es) =
      ap (λ b. cond b (Some e.1) (find inst_cmp a (map (placed number) es))) (other_step a (instance_at number e.0) differs) ∙ find_other number differs es

  find_earlier : (start : ℕ) (steps : List Step) → a.collection.0 < start → find inst_cmp a (instances_from start steps) ≡ None
  find_earlier start [] lower = refl
  find_earlier start (step ∷ steps) lower =
      in_second (map (placed start) (entries step.instances.states)) (instances_from (suc start) steps) (find_other start (λ same. omega (arith, same, lower)) (entries step.instances.states))
      ∙ find_earlier (suc start) steps (omega (arith, lower))

  find_at : (start n : ℕ) (steps : List Step) → a.collection.0 ≡ start + n → find inst_cmp a (instances_from start steps) ≡ state_in (slice_get steps n) a.key
  find_at start n [] is = refl
  find_at start zero (step ∷ steps) is =
      in_first (map (placed start) (entries step.instances.states)) (instances_from (suc start) steps) (find_earlier (suc start) steps (omega (arith, is)))
      ∙ find_same start (omega (arith, is)) (entries step.instances.states) ∙ sym (get-entries step.instances.states a.key)
  find_at start (suc n) (step ∷ steps) is =
      in_second (map (placed start) (entries step.instances.states)) (instances_from (suc start) steps) (find_other start (λ same. omega (arith, same, is)) (entries step.instances.states))
      ∙ find_at (suc start) n steps (omega (arith, is))

pub found : (known : Known) (instance : Inst) → find inst_cmp instance (all_instances known) ≡ state_at known instance
found known instance = find_at instance 0 instance.collection.0 known.steps (omega arith)

-- ---- they are in order

below_both : (a : Inst) (xs ys : List (Inst × State)) → T (below_all inst_cmp a xs) → T (below_all inst_cmp a ys) → T (below_all inst_cmp a (xs ++ ys))
below_both a [] ys low high = high
below_both a (x ∷ xs) ys low high = both _ _ (first _ _ low) (below_both a xs ys (second (is_lt (inst_cmp a x.0)) _ low) high)

below_keys : (number : ℕ) (a : Inst) → a.collection.0 ≡ number → (es : List Entry) → T (below_all key_cmp a.key es) → T (below_all inst_cmp a (map (placed number) es))
below_keys number a is [] below = tt
below_keys number a is (e ∷ es) below =
    both _ _ (subst (λ r. T (is_lt r)) (sym (same_step a (instance_at number e.0) is)) (first _ _ below)) (below_keys number a is es (second (is_lt (key_cmp a.key e.0)) _ below))

below_number : (number : ℕ) (a : Inst) → a.collection.0 < number → (es : List Entry) → T (below_all inst_cmp a (map (placed number) es))
below_number number a lower [] = tt
below_number number a lower (e ∷ es) = both _ _ (subst (λ r. T (is_lt r)) (sym (earlier_step a (instance_at number e.0) lower)) tt) (below_number number a lower es)

below_later : (start : ℕ) (steps : List Step) (a : Inst) → a.collection.0 < start → T (below_all inst_cmp a (instances_from start steps))
below_later start [] a lower = tt
below_later start (step ∷ steps) a lower =
    below_both a (map (placed start) (entries step.instances.states)) (instances_from (suc start) steps) (below_number start a lower (entries step.instances.states)) (below_later (suc start) steps a (omega (arith, lower)))

sorted_front : (start : ℕ) (es : List Entry) (steps : List Step) → T (is_sorted key_cmp es) → T (is_sorted inst_cmp (instances_from (suc start) steps)) → T (is_sorted inst_cmp (map (placed start) es ++ instances_from (suc start) steps))
sorted_front start [] steps keys rest = rest
sorted_front start (e ∷ es) steps keys rest =
    both _ _
    (below_both (instance_at start e.0) (map (placed start) es) (instances_from (suc start) steps) (below_keys start (instance_at start e.0) refl es (first _ _ keys)) (below_later (suc start) steps (instance_at start e.0) (omega arith)))
    (sorted_front start es steps (second (below_all key_cmp e.0 es) _ keys) rest)

sorted_from : (start : ℕ) (steps : List Step) → T (is_sorted inst_cmp (instances_from start steps))
sorted_from start [] = tt
sorted_from start (step ∷ steps) = sorted_front start (entries step.instances.states) steps (entries_sorted step.instances.states) (sorted_from (suc start) steps)

pub rises : (known : Known) → T (is_sorted inst_cmp (all_instances known))
rises known = sorted_from 0 known.steps
