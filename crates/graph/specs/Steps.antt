-- The faults at a step, by the number of components of the tags that prescribe it.
use Rattle.std.specs.Prelude.{◌≡◌, ℕ, Bool, true, not, List, [], length, Result, Option, None, Some, option_map, slice_get, ◌==◌}
use Rattle.terms.specs.declared.name.TagCollection.{TagCollection}
use Rattle.steptree.specs.Names.{Text, place_of, names_in}
use Rattle.graph.specs.Numbered.{found}
use Rattle.steptree.specs.declared.step.Step.{Step as NamedStep}
use Rattle.steptree.specs.Nameable.{Collection}
use Rattle.syntax.specs.declared.tree.Relation.{Relation}
use Rattle.graph.specs.declared.fault.GraphError.TheVariants.{Arity, NoPrescriber, StepTwice}
use Rattle.graph.specs.declared.fault.PlacedFault.{PlacedFault}
use Rattle.graph.specs.declared.relations.Relations.{Relations}
use Rattle.graph.specs.Faults.{At, fault_if, or_else, step_faults}
use Rattle.graph.specs.Placed.{Reports}
use Rattle.graph.specs.Relations.{AreRelations}
use Rattle.graph.specs.Tree.{step_names}

abbrev pub components_faults : Option ℕ → NamedStep → List At
components_faults None step = fault_if true NoPrescriber step.name.place
components_faults (Some components) step = fault_if (not (components == length step.parameters.items)) Arity step.name.place

-- the step has a second text, or else one of those
abbrev pub prescribed_faults : Bool → Option ℕ → NamedStep → List At
prescribed_faults twice components step = or_else (fault_if twice StepTwice step.name.place) (components_faults components step)

abbrev pub components_by : List Collection → Option TagCollection → Option ℕ
components_by tags None = None
components_by tags (Some tag) = option_map (λ declared. declared.components) (slice_get tags tag.0)

-- the number of each name is its first index in the list
abbrev pub ArePlaces : List (Text × ℕ) → List Text → Type 0
ArePlaces numbered names = (text : Text) → found numbered text ≡ place_of names text

-- the steps have no fault if the call succeeds; otherwise the first fault is reported, or that memory was refused
abbrev pub ReportsSteps : {X : Type 0} → List Collection → Relations → List (Text × ℕ) → List NamedStep → Result X PlacedFault → Type 0
ReportsSteps tags relations numbered steps result = (items : List Text) (all : List Relation) → AreRelations items (names_in tags) (step_names steps) all relations → ArePlaces numbered (step_names steps)
    → Reports (step_faults tags all [] steps) result
