-- Which steps a tag collection prescribes.
use Rattle.std.specs.Prelude.{◌≡◌, ◌↔◌, ◌<◌, ℕ, suc, Bool, false, List, [], ◌∷◌, ◌++◌, map, length, Option, Some, None, get_or, slice_get, ◌==◌, if◌then◌else◌, Vec}
use Rattle.std.specs.List.{Contains}
use Rattle.std.proofs.Math.ListN.{set}
use Rattle.std.specs.declared.alloc.Global.{Global}
use Rattle.terms.specs.declared.name.Inst.{Inst}
use Rattle.terms.specs.declared.name.StepCollection.{StepCollection}
use Rattle.terms.specs.declared.name.Tag.{Tag}
use Rattle.steptree.specs.Names.{Text}
use Rattle.graph.specs.Graph.{Step, Graph, Prescribes}

-- these steps have the numbers from `number` on; the numbers of those that tag collection `tag` prescribes, in ascending order
abbrev pub prescribed_from : ℕ → List Step → ℕ → List ℕ
prescribed_from number [] tag = []
prescribed_from number (step ∷ steps) tag = if step.prescriber == tag then number ∷ prescribed_from (suc number) steps tag else prescribed_from (suc number) steps tag

-- the numbers of the steps that a tag collection prescribes, in ascending order
abbrev pub prescribed_by : Graph → ℕ → List ℕ
prescribed_by g tag = prescribed_from 0 g.steps tag

-- a tag prescribes an instance exactly if the step is one of those and the keys are equal
abbrev pub PrescribesListed : Type 0
PrescribesListed = (g : Graph) (tag : Tag) (instance : Inst) → Prescribes g tag instance ↔ (Contains (prescribed_by g tag.collection.0) instance.collection.0 × (tag.key ≡ instance.key))

abbrev pub names_of_steps : List Step → List Text
names_of_steps steps = map (λ step. step.name) steps

-- the mark of a step at a number, or false if there is no step or no such number
abbrev pub mark_in : (Step → List Bool) → Option Step → ℕ → Bool
mark_in marks None number = false
mark_in marks (Some step) number = get_or (marks step) number false

-- the mark of a step of the graph at a number, or false if there is no such step or number
abbrev pub mark_of : (Step → List Bool) → Graph → ℕ → ℕ → Bool
mark_of marks g step number = mark_in marks (slice_get g.steps step) number

-- the numbers of the steps in each list
abbrev pub numbers_of : List (Vec StepCollection Global) → List (List ℕ)
numbers_of lists = map (λ steps. map (λ step. step.0) steps.items) lists

-- the lists with one step more in that of a tag collection
abbrev pub with_step : List (List ℕ) → ℕ → ℕ → List (List ℕ)
with_step lists tag step = set lists tag (get_or lists tag [] ++ step ∷ [])

-- there is a list for each of `tags` tag collections, of the numbers of the steps that it prescribes, in ascending order
pub record ArePrescriptions (steps : List Step) (tags : ℕ) (lists : List (List ℕ)) : Type 0 where
  pub long : length lists ≡ tags
  pub each : (tag : ℕ) → tag < tags → get_or lists tag [] ≡ prescribed_from 0 steps tag
