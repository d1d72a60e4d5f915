-- The steps of a store that was read, one after another: what is seen over all of them.
use Rattle.std.proofs.Common.{◌≡◌, ◌∙◌, ap, sym, refl, subst, ℕ, zero, suc, ◌+◌, ◌≤◌, ◌^◌, ℤ, Bool, List, [], ◌∷◌, ◌++◌, length, slice_get, Option, Some, None, is_some, option_map, arith}
use Rattle.std.specs.Bool.{⊤}
use Rattle.std.specs.FinMap.{FinMap, get}
use Rattle.terms.specs.declared.name.Inst.{Inst}
use Rattle.terms.specs.declared.name.TagCollection.{TagCollection}
use Rattle.maps.specs.Numbered.{Numbered, place_cmp}
use Rattle.instances.specs.declared.step.Step.{Step}
use Rattle.instances.specs.Known.{ArePrescribed, instance_at, prescriber_in, state_in}
use Rattle.instances.specs.Restored.{IsRestored, begins, first_state_in}
use Rattle.instances.specs.RestoredSteps.{AreRestoredSteps, HasRestored}

module _ (tags : FinMap place_cmp Bool) (ended : FinMap place_cmp ⊤) where
  -- one more step
  pub one_more :
      (start number : ℕ) (prescribers : List TagCollection) (steps : List Step) (prescriber : TagCollection) (step : Step) → number ≡ start + length prescribers →
      AreRestoredSteps tags ended start prescribers steps → step.prescriber ≡ prescriber → HasRestored tags ended prescriber.0 number step.instances.states →
      AreRestoredSteps tags ended start (prescribers ++ prescriber ∷ []) (steps ++ step ∷ [])
  one_more start number [] [] prescriber step here were its has = (its, subst (λ n. HasRestored tags ended prescriber.0 n step.instances.states) (let same : number ≡ start = omega (arith, here) in same) has, tt)
  one_more start number [] (first ∷ steps) prescriber step here were its has = absurd were
  one_more start number (first ∷ prescribers) [] prescriber step here were its has = absurd were
  one_more start number (it ∷ prescribers) (first ∷ steps) prescriber step here were its has = (were.0, were.1, one_more (suc start) number prescribers steps prescriber step (omega (arith, here)) were.2 its has)

  -- as many steps as prescribing collections
  pub as_many : (start : ℕ) (prescribers : List TagCollection) (steps : List Step) → AreRestoredSteps tags ended start prescribers steps → length steps ≡ length prescribers
  as_many start [] [] are = refl
  as_many start [] (step ∷ steps) are = absurd are
  as_many start (it ∷ prescribers) [] are = absurd are
  as_many start (it ∷ prescribers) (step ∷ steps) are = ap suc (as_many (suc start) prescribers steps are.2)

  -- a step by its number, and the collection that prescribes it
  abbrev IsRestoredStep : ℕ → Option TagCollection → Option Step → Type 0
  IsRestoredStep number None None = ⊤
  IsRestoredStep number (Some prescriber) (Some step) = (step.prescriber ≡ prescriber) × HasRestored tags ended prescriber.0 number step.instances.states
  IsRestoredStep number prescriber step = ⊥

  at : (start n number : ℕ) (prescribers : List TagCollection) (steps : List Step) → number ≡ start + n → AreRestoredSteps tags ended start prescribers steps → IsRestoredStep number (slice_get prescribers n) (slice_get steps n)
  at start n number [] [] here are = tt
  at start n number [] (step ∷ steps) here are = absurd are
  at start n number (it ∷ prescribers) [] here are = absurd are
  at start zero number (it ∷ prescribers) (step ∷ steps) here are =
      let same : start ≡ number = omega (arith, here) in (are.0, subst (λ n. HasRestored tags ended it.0 n step.instances.states) same are.1)
  at start (suc n) number (it ∷ prescribers) (step ∷ steps) here are = at (suc start) n number prescribers steps (omega (arith, here)) are.2

-- so all instances are those that the tags prescribe
module _ (held : Numbered Bool) (ended : FinMap place_cmp ⊤) (prescribers : List TagCollection) (steps : List Step) (are : AreRestoredSteps held.items ended 0 prescribers steps) where
  its_prescriber : (n : ℕ) (it : Option TagCollection) (step : Option Step) → IsRestoredStep held.items ended n it step → prescriber_in step ≡ option_map (λ tag. tag.0) it
  its_prescriber n None None is = refl
  its_prescriber n None (Some step) is = absurd is
  its_prescriber n (Some it) None is = absurd is
  its_prescriber n (Some it) (Some step) is = ap (λ (p : TagCollection). Some p.0) is.0

  its_state : (instance : Inst) (it : Option TagCollection) (step : Option Step) → IsRestoredStep held.items ended instance.collection.0 it step → state_in step instance.key ≡ first_state_in held ended it instance
  its_state instance None None is = refl
  its_state instance None (Some step) is = absurd is
  its_state instance (Some it) None is = absurd is
  its_state instance (Some it) (Some step) is = is.1 instance.key

  pub are_restored : IsRestored held ended prescribers (record { tags = held; steps = steps })
  are_restored = record {
    tags = refl;
    prescribers = λ n. its_prescriber n _ _ (at held.items ended 0 n n prescribers steps (omega arith) are);
    states = λ i. its_state i _ _ (at held.items ended 0 i.collection.0 i.collection.0 prescribers steps (omega arith) are);
  }

  with_tags : (n : ℕ) (it : Option TagCollection) (step : Step) (key : List ℤ) → IsRestoredStep held.items ended n it (Some step) → is_some (get step.instances.states key) ≡ is_some (get held.items (step.prescriber.0, key))
  with_tags n None step key is = absurd is
  with_tags n (Some it) step key is = ap is_some (is.1 key) ∙ as_there (get held.items (it.0, key)) ∙ ap (λ (p : TagCollection). is_some (get held.items (p.0, key))) (sym is.0)
    where
      as_there : (o : Option Bool) → is_some (option_map (λ _. begins ended (instance_at n key)) o) ≡ is_some o
      as_there None = refl
      as_there (Some mark) = refl

  pub are_prescribed : length prescribers ≤ 2 ^ 16 → (length steps ≤ 2 ^ 16) × ArePrescribed held steps
  are_prescribed few = (
    omega (arith, few, as_many held.items ended 0 prescribers steps are),
    λ n step key there. with_tags n _ step key (subst (IsRestoredStep held.items ended n (slice_get prescribers n)) there (at held.items ended 0 n n prescribers steps (omega arith) are)),
  )
