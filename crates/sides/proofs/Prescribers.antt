-- The one tag that can prescribe an instance.
use Rattle.std.proofs.Common.{◌≡◌, ◌↔◌, ℕ, true, Option, Some, None, refl, sym, ap, subst, ◌∙◌}
use Rattle.std.specs.Option.{option_map}
use Rattle.std.specs.List.{slice_get}
use Rattle.terms.specs.declared.name.Inst.{Inst}
use Rattle.terms.specs.declared.name.Tag.{Tag}
use Rattle.terms.specs.declared.name.TagCollection.{TagCollection}
use Rattle.terms.specs.Facts.{tag}
use Rattle.terms.specs.Sets.{Facts}
use Rattle.graph.specs.Graph.{Graph, Step}
use Rattle.graph.specs.Fits.{IsPrescribed}

-- what a field that is there was read from
read_from : {X : Type 0} (f : X → ℕ) (o : Option X) (n : ℕ) → Some n ≡ option_map f o → (x : X) × (o ≡ Some x) × (f x ≡ n)
read_from f None n is = absurd (cc)
read_from f (Some x) n is = (x, refl, cc)

-- an instance is prescribed where the tag of its step's prescriber with its key is there
pub prescribed_by : (g : Graph) (X : Facts) (instance : Inst) (collection : TagCollection) → Some collection.0 ≡ option_map (λ step. step.prescriber) (slice_get g.steps instance.collection.0)
    → (X (tag (record { collection = collection; key = instance.key })) ≡ true) ↔ IsPrescribed g X instance
prescribed_by g X instance collection is =
    let one : Tag = record { collection = collection; key = instance.key } in
    let found = read_from (λ (step : Step). step.prescriber) (slice_get g.steps instance.collection.0) collection.0 is in (
      λ holds. (one, holds, record { step = found.0; is_step = found.1; prescriber = found.2; key = refl }),
      λ prescribed.
          let by = prescribed.2 in
          let same : Some collection.0 ≡ Some by.step.prescriber = is ∙ ap (option_map (λ (step : Step). step.prescriber)) by.is_step in
          let number : prescribed.0.collection.0 ≡ collection.0 = sym by.prescriber ∙ (cc) in
          let named : prescribed.0 ≡ one = λ i. record { collection = record { 0 = number i }; key = by.key i } in
          subst (λ (name : Tag). X (tag name) ≡ true) named prescribed.1,
    )
