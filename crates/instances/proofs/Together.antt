-- Instances and tags are there together.
use Rattle.std.proofs.Common.{◌≡◌, ◌∙◌, ap, sym, refl, ℕ, ℤ, ◌==◌, Bool, true, false, ◌&&◌, List, Option, Some, None, is_some, slice_get}
use mathlib.Core.Bool.{false≢true}
use Rattle.std.specs.Ordering.{eq_by_cmp, is_eq}
use Rattle.std.specs.Cmp.{Equal-is, unsigned_Decides}
use Rattle.std.specs.FinMap.{get}
use Rattle.std.proofs.lemmas.Cmp.{tied_itself}
use Rattle.terms.specs.Key.{key_cmp}
use Rattle.terms.specs.declared.name.Inst.{Inst}
use Rattle.terms.specs.declared.name.Tag.{Tag}
use Rattle.maps.specs.Numbered.{Numbered}
use Rattle.maps.specs.PlaceOrder.{keys_total, same_key}
use Rattle.instances.specs.declared.step.Step.{Step}
use Rattle.instances.specs.Known.{Known, ArePrescribed, mark_of, state_at, state_in, is_prescribed_by, prescribed_in, prescriber_in}
use Rattle.instances.specs.There.{AreThereTogether}
use Rattle.instances.proofs.Prescribing.{same_number}

both : (a b : Bool) → (a && b) ≡ true → (a ≡ true) × (b ≡ true)
both true b is = (refl, is)
both false b is = absurd (false≢true is)

and_both : (a b : Bool) → a ≡ true → b ≡ true → (a && b) ≡ true
and_both true b one two = two
and_both false b one two = one

module _ (tags : Numbered Bool) (steps : List Step) (prescribed : ArePrescribed tags steps) where
  abbrev pub known : Known
  known = record { tags = tags; steps = steps }

  together : (name : Tag) (instance : Inst) → is_prescribed_by known name instance ≡ true → is_some (state_at known instance) ≡ is_some (mark_of known name)
  together name instance is = at (slice_get steps instance.collection.0) refl is
    where
      at : (o : Option Step) → slice_get steps instance.collection.0 ≡ o → prescribed_in (prescriber_in o) name instance.key ≡ true → is_some (state_at known instance) ≡ is_some (mark_of known name)
      at None here is = absurd (false≢true is)
      at (Some step) here is =
          let parts = both (step.prescriber.0 == name.collection.0) (eq_by_cmp key_cmp instance.key name.key) is in
          let number = same_number step.prescriber.0 name.collection.0 parts.0 in
          let key = same_key instance.key name.key ((Equal-is (key_cmp instance.key name.key)).0 parts.1) in
          ap (λ (o : Option Step). is_some (state_in o instance.key)) here ∙ prescribed instance.collection.0 step instance.key here
          ∙ ap (λ (n : ℕ). is_some (get tags.items (n, instance.key))) number ∙ ap (λ (k : List ℤ). is_some (get tags.items (name.collection.0, k))) key

  by_one : (instance : Inst) → is_some (state_at known instance) ≡ true → (name : Tag) × (is_prescribed_by known name instance ≡ true)
  by_one instance there = at (slice_get steps instance.collection.0) refl
    where
      at : (o : Option Step) → slice_get steps instance.collection.0 ≡ o → (name : Tag) × (is_prescribed_by known name instance ≡ true)
      at None here = absurd (false≢true (ap (λ (o : Option Step). is_some (state_in o instance.key)) (sym here) ∙ there))
      at (Some step) here = (
        record { collection = step.prescriber; key = instance.key },
        ap (λ (o : Option Step). prescribed_in (prescriber_in o) (record { collection = step.prescriber; key = instance.key }) instance.key) here
            ∙ and_both (step.prescriber.0 == step.prescriber.0) (eq_by_cmp key_cmp instance.key instance.key) ((unsigned_Decides step.prescriber.0 step.prescriber.0).1 refl) (ap is_eq (tied_itself keys_total instance.key)),
      )

  pub are_there : AreThereTogether known
  are_there = record { together = together; prescribed = by_one }
