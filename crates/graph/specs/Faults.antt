-- The faults of a tree, by position: of the declarations, the relations, the steps. Where several faults share a position, only
-- one of them counts. The faults of the bodies come after these.
use Rattle.std.specs.Prelude.{ℕ, Bool, true, false, not, ◌&&◌, ◌==◌, is_some, if◌then◌else◌, List, [], ◌∷◌, ◌++◌, length, Option, Some, None}
use Rattle.std.specs.List.{list_any}
use Rattle.steptree.specs.declared.checker.CheckFault.{CheckFault}
use Rattle.steptree.specs.declared.step.Name.{Name}
use Rattle.steptree.specs.declared.step.Step.{Step as NamedStep}
use Rattle.steptree.specs.Names.{Text, is_text, place_of, names_in}
use Rattle.steptree.specs.Nameable.{Collection}
use Rattle.syntax.specs.declared.tree.Declaration.{Declaration}
use Rattle.syntax.specs.declared.tree.Declaration.TheVariants as declared
use Rattle.syntax.specs.declared.tree.Relation.{Relation}
use Rattle.syntax.specs.declared.tree.Relation.TheVariants as related
use Rattle.syntax.specs.declared.tree.Tree.{Tree}
use Rattle.graph.specs.declared.fault.GraphError.{GraphError}
use Rattle.graph.specs.declared.fault.GraphError.TheVariants.{Redeclared, UnknownName, Arity, NoPrescriber, TwoPrescribers, StepMissing, StepTwice, Check}
use Rattle.graph.specs.Tree.{text_of, items_of, tags_of, step_names, prescriber_of}

-- a fault at a position
abbrev pub At : Type 0
At = GraphError × ℕ

abbrev pub fault_if : Bool → GraphError → ℕ → List At
fault_if holds error position = if holds then (error, position) ∷ [] else []

-- of two faults at one position, the first that is there
abbrev pub or_else : List At → List At → List At
or_else [] other = other
or_else (first ∷ more) other = first ∷ more

abbrev pub has : List Text → Name → Bool
has names name = is_some (place_of names (text_of name))

-- in a list of names, those that appeared before
abbrev pub repeated : List Text → List Name → List At
repeated before [] = []
repeated before (name ∷ more) = fault_if (has before name) Redeclared name.place ++ repeated (before ++ text_of name ∷ []) more

-- ---- declarations

-- a name that its kind already has
abbrev pub declaration_faults : List Text → List Text → List Declaration → List At
declaration_faults items tags [] = []
declaration_faults items tags (declared.Item name components ∷ more) = fault_if (has items name) Redeclared name.place ++ declaration_faults (items ++ text_of name ∷ []) tags more
declaration_faults items tags (declared.Tag name components ∷ more) = fault_if (has tags name) Redeclared name.place ++ declaration_faults items (tags ++ text_of name ∷ []) more

-- ---- relations

abbrev pub same_name : Name → Name → Bool
same_name one two = is_text (text_of one) (text_of two)

-- whether two relations are the same, leaving aside their positions
abbrev pub same_relation : Relation → Relation → Bool
same_relation (related.Reads p a b) (related.Reads q c d) = same_name a c && same_name b d
same_relation (related.PutsItem p a b) (related.PutsItem q c d) = same_name a c && same_name b d
same_relation (related.PutsTag p a b) (related.PutsTag q c d) = same_name a c && same_name b d
same_relation (related.EnvironmentPutsItem p a) (related.EnvironmentPutsItem q b) = same_name a b
same_relation (related.EnvironmentPutsTag p a) (related.EnvironmentPutsTag q b) = same_name a b
same_relation (related.EnvironmentGets p a) (related.EnvironmentGets q b) = same_name a b
same_relation one two = false

-- a relation that appeared before; the fault is at its first token
abbrev pub again : List Relation → Relation → ℕ → List At
again before relation position = fault_if (list_any (same_relation relation) before) Redeclared position

-- an item or a tag that is not declared; a step that has no text
abbrev pub unknown : List Text → Name → List At
unknown names name = fault_if (not (has names name)) UnknownName name.place

abbrev pub missing : List Text → Name → List At
missing steps name = fault_if (not (has steps name)) StepMissing name.place

-- a step that is already prescribed
abbrev pub prescribed_before : List Relation → Name → List At
prescribed_before before step = fault_if (is_some (prescriber_of before (text_of step))) TwoPrescribers step.place

module _ (items tags steps : List Text) where
  abbrev pub relation_fault : List Relation → Relation → List At
  relation_fault before (related.Prescribes tag step) = unknown tags tag ++ or_else (missing steps step) (prescribed_before before step)
  relation_fault before (related.Reads position item step) = again before (related.Reads position item step) position ++ unknown items item ++ missing steps step
  relation_fault before (related.PutsItem position step item) = again before (related.PutsItem position step item) position ++ missing steps step ++ unknown items item
  relation_fault before (related.PutsTag position step tag) = again before (related.PutsTag position step tag) position ++ missing steps step ++ unknown tags tag
  relation_fault before (related.EnvironmentPutsItem position item) = again before (related.EnvironmentPutsItem position item) position ++ unknown items item
  relation_fault before (related.EnvironmentPutsTag position tag) = again before (related.EnvironmentPutsTag position tag) position ++ unknown tags tag
  relation_fault before (related.EnvironmentGets position item) = again before (related.EnvironmentGets position item) position ++ unknown items item

  abbrev pub relation_faults : List Relation → List Relation → List At
  relation_faults before [] = []
  relation_faults before (relation ∷ more) = relation_fault before relation ++ relation_faults (before ++ relation ∷ []) more

-- ---- steps

-- the number of components of this collection's tags
abbrev pub components_of : List Collection → Text → Option ℕ
components_of [] name = None
components_of (collection ∷ more) name = if is_text collection.name name then Some collection.components else components_of more name

abbrev pub is_other : Option ℕ → ℕ → Bool
is_other None number = false
is_other (Some it) number = not (it == number)

-- nothing prescribes the step, or the number of its parameters is not the number of components of the tags that prescribe it
abbrev pub arity_faults : List Collection → Option Text → NamedStep → List At
arity_faults tags None step = fault_if true NoPrescriber step.name.place
arity_faults tags (Some tag) step = fault_if (is_other (components_of tags tag) (length step.parameters.items)) Arity step.name.place

abbrev pub step_faults : List Collection → List Relation → List Text → List NamedStep → List At
step_faults tags relations before [] = []
step_faults tags relations before (step ∷ more) =
    or_else (fault_if (has before step.name) StepTwice step.name.place) (arity_faults tags (prescriber_of relations (text_of step.name)) step)
    ++ repeated [] (step.parameters.items ++ step.variables.items)
    ++ step_faults tags relations (before ++ text_of step.name ∷ []) more

-- ---- all of them

-- the faults of names and relations
abbrev pub tree_faults : Tree → List At
tree_faults tree = declaration_faults [] [] tree.declarations.items
    ++ relation_faults (names_in (items_of tree.declarations.items)) (names_in (tags_of tree.declarations.items)) (step_names tree.steps.items) [] tree.relations.items
    ++ step_faults (tags_of tree.declarations.items) tree.relations.items [] tree.steps.items

abbrev pub body_fault : CheckFault → At
body_fault fault = (Check fault.error, fault.place)
