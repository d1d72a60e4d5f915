-- The steps of a tree after their bodies were checked against what the tree lets each step name.
use Rattle.std.specs.Prelude.{◌≡◌, ◌⊎◌, ℕ, List, [], map, Some, slice_get, Result, MatchResult}
use Rattle.steptree.specs.declared.step.Step.{Step as NamedStep}
use Rattle.steptree.specs.CheckFaults.{faults_of}
use Rattle.steptree.specs.Names.{Text, place_of, names_in}
use Rattle.steptree.specs.Resolved.{Resolves}
use Rattle.steptree.specs.Sheet.{BodyKeepsTo}
use Rattle.syntax.specs.declared.tree.Tree.{Tree}
use Rattle.syntax.specs.Tree.{AreAll}
use Rattle.graph.specs.declared.fault.PlacedFault.{PlacedFault}
use Rattle.graph.specs.declared.graph.Prescribed.{Prescribed}
use Rattle.graph.specs.Faults.{body_fault}
use Rattle.graph.specs.Placed.{IsFirst, no_memory, too_large}
use Rattle.graph.specs.Reads.{IsTreeFault, IsLong}
use Rattle.graph.specs.Tree.{text_of, tags_of, prescriber_of, sheet_in}

-- this is the number of the tag collection that prescribes the step
pub record IsPrescribedBy (tree : Tree) (step : NamedStep) (number : ℕ) : Type 0 where
  pub tag : Text
  pub first : prescriber_of tree.relations.items (text_of step.name) ≡ Some tag
  pub place : place_of (names_in (tags_of tree.declarations.items)) tag ≡ Some number

-- the step, after the check: what prescribes it, what it may read and put, and its body, which has no fault
pub record IsCheckedStep (tree : Tree) (step : NamedStep) (it : Prescribed) : Type 0 where
  pub prescriber : IsPrescribedBy tree step it.prescriber.0
  pub reads : it.reads.items ≡ (sheet_in tree step).reads
  pub item_puts : it.item_puts.items ≡ (sheet_in tree step).item_puts
  pub tag_puts : it.tag_puts.items ≡ (sheet_in tree step).tag_puts
  pub resolves : Resolves (sheet_in tree step) step it.checked
  pub keeps : BodyKeepsTo (sheet_in tree step) it.checked.body
  pub no_fault : faults_of (sheet_in tree step) step ≡ []

-- memory was refused, or it is the first fault of the step's body
abbrev pub IsBodyFault : Tree → NamedStep → PlacedFault → Type 0
IsBodyFault tree step = IsFirst (map body_fault (faults_of (sheet_in tree step) step))

-- the step with this number is checked if its body has no fault; otherwise the first fault of it is reported, or that memory was refused
abbrev pub ChecksStep : Tree → ℕ → Result Prescribed PlacedFault → Type 0
ChecksStep tree number result = (step : NamedStep) → slice_get tree.steps.items number ≡ Some step → MatchResult result (IsCheckedStep tree step) (IsBodyFault tree step)

-- the names of these steps, and the steps
abbrev pub AreCheckedSteps : Tree → List NamedStep → List (Text × Prescribed) → Type 0
AreCheckedSteps tree steps them = AreAll (λ step entry. (entry.0 ≡ text_of step.name) × IsCheckedStep tree step entry.1) steps them

-- all steps of the tree are checked; otherwise its first fault is reported, or that memory was refused
abbrev pub ChecksBodies : Tree → Result (List (Text × Prescribed)) PlacedFault → Type 0
ChecksBodies tree result = MatchResult result (AreCheckedSteps tree tree.steps.items) (λ fault. (fault ≡ no_memory) ⊎ IsTreeFault tree fault.error fault.position)

-- why a tree gives no graph: memory was refused, or this is its first fault, or its canonical text is too long
abbrev pub IsRefusal : Tree → PlacedFault → Type 0
IsRefusal tree fault = (fault ≡ no_memory) ⊎ IsTreeFault tree fault.error fault.position ⊎ ((fault ≡ too_large) × IsLong tree)
