-- The steps of a store that was read, one by one.
use Rattle.std.specs.Prelude.{◌≡◌, ⊤, ℕ, suc, ℤ, Bool, List, [], ◌∷◌}
use Rattle.std.specs.Option.{option_map}
use Rattle.std.specs.FinMap.{FinMap, get}
use Rattle.terms.specs.Key.{key_cmp}
use Rattle.terms.specs.declared.name.TagCollection.{TagCollection}
use Rattle.maps.specs.Numbered.{place_cmp}
use Rattle.instances.specs.declared.state.State.{State}
use Rattle.instances.specs.declared.step.Step.{Step}
use Rattle.instances.specs.Known.{instance_at}
use Rattle.instances.specs.Restored.{begins}

-- the step with this number has the instances that the tags of this collection prescribe
abbrev pub HasRestored : FinMap place_cmp Bool → FinMap place_cmp ⊤ → ℕ → ℕ → FinMap key_cmp State → Type 0
HasRestored tags ended prescriber number states = (key : List ℤ) → get states key ≡ option_map (λ _. begins ended (instance_at number key)) (get tags (prescriber, key))

-- there is such a step for each of the prescribing collections; the first one has this number
abbrev pub AreRestoredSteps : FinMap place_cmp Bool → FinMap place_cmp ⊤ → ℕ → List TagCollection → List Step → Type 0
AreRestoredSteps tags ended number [] [] = ⊤
AreRestoredSteps tags ended number (prescriber ∷ prescribers) (step ∷ steps) =
    (step.prescriber ≡ prescriber) × HasRestored tags ended prescriber.0 number step.instances.states × AreRestoredSteps tags ended (suc number) prescribers steps
AreRestoredSteps tags ended number prescribers steps = ⊥
