-- The steps that tags prescribe, adding one step at a time; those that a tag prescribes are those of the list of its collection.
use Rattle.std.proofs.Common.{◌≡◌, ◌<◌, ◌+◌, ℕ, zero, suc, if◌then◌else◌, List, [], ◌∷◌, ◌++◌, length, map, get_or, take, Some, None, refl, sym, ap, subst, ◌∙◌, slice_get, arith, ◌⊎◌, Bool, true, false, inl, inr}
use Rattle.std.proofs.lemmas.Bool.Decides.{nat_tests}
use Rattle.std.specs.Prelude.{◌==◌, Vec, option_map}
use Rattle.std.specs.List.{AllByRecursion, Contains}
use Rattle.std.specs.declared.alloc.Global.{Global}
use Rattle.std.proofs.Math.ListN.{set}
use Rattle.std.proofs.lemmas.Grind.{common_steps}
use Rattle.std.proofs.lemmas.List.{map-set, map-append, length-map, length-take-le, length-set, append-nil}
use Rattle.std.proofs.lemmas.Option.{get_or_from_slice_get}
use Rattle.terms.specs.declared.name.StepCollection.{StepCollection}
use Rattle.steptree.specs.Names.{Text}
use Rattle.graph.specs.declared.graph.Prescribed.{Prescribed}
use Rattle.graph.specs.Graph.{Step, IsStep, Prescribes}
use Rattle.graph.specs.Seen.{step_seen}
use Rattle.graph.specs.Prescribed.{prescribed_from, numbers_of, ArePrescriptions, prescribed_by, PrescribesListed}
use Rattle.graph.proofs.Marks.{stood}
use Rattle.graph.proofs.Lists.{each_found, taken}
use Rattle.std.proofs.lemmas.Bool.{eqb-true, eq-eqb}
use Rattle.std.proofs.lemmas.List.Elements.{Contains-append_left, Contains-append_right, Contains-append_cases, Contains-push, Contains-push_cases}

-- the lists after a step is appended to the one at a place
pub one_added : (lists : List (Vec StepCollection Global)) (place : ℕ) (old new : Vec StepCollection Global) (step : StepCollection) → place < length lists → old ≡ get_or lists place old
    → new.items ≡ old.items ++ step ∷ [] → numbers_of (set lists place new) ≡ set (numbers_of lists) place (get_or (numbers_of lists) place [] ++ step.0 ∷ [])
one_added lists place old new step within is more =
    map-set (λ steps. map (λ step. step.0) steps.items) lists place new
    ∙ ap (set (numbers_of lists) place)
    (ap (λ (l : List StepCollection). map (λ step. step.0) l) more ∙ map-append (λ (s : StepCollection). s.0) old.items (step ∷ [])
    ∙ ap (λ (l : List ℕ). l ++ step.0 ∷ []) (stood (λ steps. map (λ step. step.0) steps.items) lists place old [] within is))

-- the numbers after one more step
one_more : (steps : List Step) (step : Step) (number tag : ℕ) → prescribed_from number (steps ++ step ∷ []) tag ≡ prescribed_from number steps tag ++ (if step.prescriber == tag then (number + length steps) ∷ [] else [])
one_more [] step number tag = grind arith
one_more (first ∷ steps) step number tag = grind (arith, one_more steps step (suc number) tag)

pub next_prescription : (steps : List Step) (step : Step) (tags : ℕ) (lists : List (List ℕ)) → step.prescriber < tags → ArePrescriptions steps tags lists
    → ArePrescriptions (steps ++ step ∷ []) tags (set lists step.prescriber (get_or lists step.prescriber [] ++ length steps ∷ []))
next_prescription steps step tags lists within are = record {
  long = length-set lists step.prescriber _ ∙ are.long;
  each = λ tag below. grind (arith, nat_tests, common_steps, one_more steps step 0 tag, are.each tag below, append-nil (prescribed_from 0 steps tag), are.long);
}

there_is : {X : Type 0} (xs : List X) (number : ℕ) → number < length xs → (x : X) × (slice_get xs number ≡ Some x)
there_is [] number within = absurd (omega arith)
there_is (x ∷ xs) zero within = (x, refl)
there_is (x ∷ xs) (suc number) within = there_is xs number (omega arith)

-- the prescriptions after a step of the list is added in its place
pub value_prescribed : (steps : List (Text × Prescribed)) (number tags : ℕ) (value : Prescribed) (lists : List (List ℕ)) → number < length steps
    → Some value ≡ option_map (λ entry. entry.1) (slice_get steps number)
    → AllByRecursion (λ entry. entry.1.prescriber.0 < tags) steps → ArePrescriptions (map step_seen (take number steps)) tags lists
    → ArePrescriptions (map step_seen (take (number + 1) steps)) tags (set lists value.prescriber.0 (get_or lists value.prescriber.0 [] ++ number ∷ []))
value_prescribed steps number tags value lists within is all are =
    let it = there_is steps number within in
    let entry : Text × Prescribed = it.0 in
    let both : Some value ≡ Some entry.1 = is ∙ ap (option_map (λ (entry : Text × Prescribed). entry.1)) it.1 in
    let same : entry.1 ≡ value = cc in
    let count : length (map step_seen (take number steps)) ≡ number = length-map (take number steps) step_seen ∙ length-take-le number steps (omega (arith, within)) in
    let more : map step_seen (take (number + 1) steps) ≡ map step_seen (take number steps) ++ step_seen entry ∷ [] =
    ap (map step_seen) (taken steps number entry within (sym (get_or_from_slice_get steps number entry entry it.1))) ∙ map-append step_seen (take number steps) (entry ∷ []) in
    rw more
    (subst (λ (v : Prescribed). ArePrescriptions (map step_seen (take number steps) ++ step_seen entry ∷ []) tags (set lists v.prescriber.0 (get_or lists v.prescriber.0 [] ++ number ∷ []))) same
    (subst (λ (n : ℕ). ArePrescriptions (map step_seen (take number steps) ++ step_seen entry ∷ []) tags (set lists entry.1.prescriber.0 (get_or lists entry.1.prescriber.0 [] ++ n ∷ []))) count
    (next_prescription (map step_seen (take number steps)) (step_seen entry) tags lists (each_found (λ entry. entry.1.prescriber.0 < tags) steps number entry it.1 all) are)))

pub no_value : (steps : List (Text × Prescribed)) (number : ℕ) → number < length steps → None ≡ option_map (λ entry. entry.1) (slice_get steps number) → ⊥
no_value steps number within is =
    let it = there_is steps number within in
    let both : None ≡ Some it.0.1 = is ∙ ap (option_map (λ (entry : Text × Prescribed). entry.1)) it.1 in
    cc

-- ---- a list with or without one more element in front

is_first : (there : Bool) (first : ℕ) (list : List ℕ) → there ≡ true → Contains (if there then first ∷ list else list) first
is_first true first list is = Contains-append_left (first ∷ []) list first (Contains-push [] first)
is_first false first list is = absurd (cc)

is_later : (there : Bool) (first : ℕ) (list : List ℕ) (number : ℕ) → Contains list number → Contains (if there then first ∷ list else list) number
is_later true first list number it = Contains-append_right (first ∷ []) list number it
is_later false first list number it = it

one_alone : (first number : ℕ) → Contains (first ∷ []) number → first ≡ number
one_alone first number it = elim (Contains-push_cases [] first number it) [ inl none ↦ absurd (omega (arith, none.1)) | inr same ↦ same ]

first_or_later : (there : Bool) (first : ℕ) (list : List ℕ) (number : ℕ) → Contains (if there then first ∷ list else list) number → ((there ≡ true) × (first ≡ number)) ⊎ Contains list number
first_or_later true first list number it = elim (Contains-append_cases (first ∷ []) list number it) [ inl here ↦ inl (refl, one_alone first number here) | inr later ↦ inr later ]
first_or_later false first list number it = inr it

-- ---- steps numbered from a start

step_is_listed : (start : ℕ) (steps : List Step) (tag place number : ℕ) (step : Step) → slice_get steps place ≡ Some step → step.prescriber ≡ tag → start + place ≡ number
    → Contains (prescribed_from start steps tag) number
step_is_listed start [] tag place number step there prescribed at = absurd (cc)
step_is_listed start (first ∷ steps) tag zero number step there prescribed at =
    let same : first ≡ step = cc in
    let here : start ≡ number = omega (arith, at) in
    subst (Contains (prescribed_from start (first ∷ steps) tag)) here
    (is_first (first.prescriber == tag) start (prescribed_from (suc start) steps tag) (eq-eqb first.prescriber tag (ap (λ (s : Step). s.prescriber) same ∙ prescribed)))
step_is_listed start (first ∷ steps) tag (suc place) number step there prescribed at =
    is_later (first.prescriber == tag) start (prescribed_from (suc start) steps tag) number (step_is_listed (suc start) steps tag place number step there prescribed (omega (arith, at)))

-- the tag collection prescribes the step with this number; numbers count from the start
abbrev IsStepOf : ℕ → List Step → ℕ → ℕ → Type 0
IsStepOf start steps tag number = (place : ℕ) × (step : Step) × (slice_get steps place ≡ Some step) × (step.prescriber ≡ tag) × (start + place ≡ number)

listed_is_step : (start : ℕ) (steps : List Step) (tag number : ℕ) → Contains (prescribed_from start steps tag) number → IsStepOf start steps tag number
listed_is_step start [] tag number it = absurd (omega (arith, it.1))
listed_is_step start (first ∷ steps) tag number it =
    elim (first_or_later (first.prescriber == tag) start (prescribed_from (suc start) steps tag) number it) [
      | inl here ↦ (0, first, refl, eqb-true first.prescriber tag here.0, omega (arith, here.1))
      | inr later ↦ (let found = listed_is_step (suc start) steps tag number later in (suc found.0, found.1, found.2, found.3, omega (arith, found.4)))
    ]

pub prescribes_listed : PrescribesListed
prescribes_listed g tag instance = (listed, prescribed)
  where
    listed : Prescribes g tag instance → Contains (prescribed_by g tag.collection.0) instance.collection.0 × (tag.key ≡ instance.key)
    listed it = (step_is_listed 0 g.steps tag.collection.0 instance.collection.0 instance.collection.0 it.step it.is_step it.prescriber (omega arith), it.key)

    prescribed : Contains (prescribed_by g tag.collection.0) instance.collection.0 × (tag.key ≡ instance.key) → Prescribes g tag instance
    prescribed it =
        let found = listed_is_step 0 g.steps tag.collection.0 instance.collection.0 it.0 in
        let place : found.0 ≡ instance.collection.0 = omega (arith, found.4) in
        record { step = found.1; is_step = subst (λ (n : ℕ). IsStep g n found.1) place found.2; prescriber = found.3; key = it.1 }
