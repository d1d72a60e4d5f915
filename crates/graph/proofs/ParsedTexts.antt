-- What is known of a text that a graph was made of; the faults of a tree are of names, relations and bodies.
use Rattle.std.proofs.Common.{◌≡◌, ◌⊎◌, inl, inr, ℕ, Bool, true, false, List, [], ◌∷◌, ◌++◌, map, Option, Some, None, slice_get, subst, ◌≤◌, length, refl, sym}
use Rattle.std.specs.Prelude.{⊤, Result, Ok, Err, IfOk, IfErr}
use Rattle.std.specs.List.{AllByRecursion}
use Rattle.steptree.specs.declared.checker.CheckFault.{CheckFault}
use Rattle.steptree.specs.declared.step.Name.{Name}
use Rattle.steptree.specs.declared.step.Step.{Step as NamedStep}
use Rattle.steptree.specs.Names.{Text, names_in}
use Rattle.steptree.specs.Nameable.{Collection}
use Rattle.syntax.specs.declared.tree.Declaration.{Declaration}
use Rattle.syntax.specs.declared.tree.Declaration.TheVariants as declared
use Rattle.syntax.specs.declared.tree.Relation.{Relation}
use Rattle.syntax.specs.declared.tree.Relation.TheVariants as related
use Rattle.syntax.specs.declared.tree.Tree.{Tree}
use Rattle.syntax.specs.Reading.{IsRead}
use Rattle.graph.specs.declared.fault.GraphError.{GraphError}
use Rattle.graph.specs.declared.fault.GraphError.TheVariants as error
use Rattle.graph.specs.declared.fault.PlacedFault.{PlacedFault}
use Rattle.graph.specs.Placed.{no_memory, too_large}
use Rattle.graph.specs.Tree.{text_of, items_of, tags_of, step_names, IsGraphOf}
use Rattle.graph.specs.Faults.{At, fault_if, or_else, repeated, declaration_faults, relation_fault, relation_faults, arity_faults, step_faults, tree_faults, body_fault}
use Rattle.graph.specs.Reads.{IsPlain, body_faults, IsTreeFault, IsFirstFault, IsCause, Reads, IsLong}
use Rattle.graph.proofs.Lists.{each_of_both}
use Rattle.graph.specs.declared.limits.TheConstants.{MOST_TEXT}
use Rattle.graph.specs.Canonical.{canonical}
use Rattle.graph.specs.Graph.{Graph}

-- a fault of a name, a relation or a body
abbrev pub IsNamed : GraphError → Type 0
IsNamed error.NotAscii = ⊥
IsNamed error.Syntax = ⊥
IsNamed error.TooLarge = ⊥
IsNamed error.NoMemory = ⊥
IsNamed _ = ⊤

record AreNamed (faults : List At) : Type 0 where
  each : AllByRecursion (λ fault. IsNamed fault.0) faults

both : (a b : List At) → AreNamed a → AreNamed b → AreNamed (a ++ b)
both a b one two = record { each = each_of_both (λ fault. IsNamed fault.0) a b one.each two.each }

one_if : (holds : Bool) (kind : GraphError) (place : ℕ) → IsNamed kind → AreNamed (fault_if holds kind place)
one_if true kind place named = record { each = (named, tt) }
one_if false kind place named = record { each = tt }

either : (a b : List At) → AreNamed a → AreNamed b → AreNamed (or_else a b)
either [] b one two = two
either (fault ∷ a) b one two = one

none : AreNamed []
none = record { each = tt }

ruleset named = (both, one_if, either, none, tt)

repeated_named : (before : List Text) (names : List Name) → AreNamed (repeated before names)
repeated_named before [] = none
repeated_named before (name ∷ more) = both _ _ (search named) (repeated_named (before ++ text_of name ∷ []) more)

declarations_named : (items tags : List Text) (them : List Declaration) → AreNamed (declaration_faults items tags them)
declarations_named items tags [] = none
declarations_named items tags (declared.Item name components ∷ more) = both _ _ (search named) (declarations_named (items ++ text_of name ∷ []) tags more)
declarations_named items tags (declared.Tag name components ∷ more) = both _ _ (search named) (declarations_named items (tags ++ text_of name ∷ []) more)

module _ (items tags steps : List Text) where
  relation_named : (before : List Relation) (relation : Relation) → AreNamed (relation_fault items tags steps before relation)
  relation_named before (related.Prescribes tag step) = search named
  relation_named before (related.Reads place item step) = search named
  relation_named before _ = search named

  relations_named : (before them : List Relation) → AreNamed (relation_faults items tags steps before them)
  relations_named before [] = none
  relations_named before (relation ∷ more) = both _ _ (relation_named before relation) (relations_named (before ++ relation ∷ []) more)

arity_named : (tags : List Collection) (prescriber : Option Text) (step : NamedStep) → AreNamed (arity_faults tags prescriber step)
arity_named tags None step = search named
arity_named tags (Some tag) step = search named

steps_named : (tags : List Collection) (relations : List Relation) (before : List Text) (them : List NamedStep) → AreNamed (step_faults tags relations before them)
steps_named tags relations before [] = none
steps_named tags relations before (step ∷ more) = both _ _ (search (named, arity_named, repeated_named)) (steps_named tags relations (before ++ text_of step.name ∷ []) more)

tree_named : (tree : Tree) → AreNamed (tree_faults tree)
tree_named tree =
    both _ _ (both _ _ (declarations_named [] [] tree.declarations.items) (relations_named (names_in (items_of tree.declarations.items)) (names_in (tags_of tree.declarations.items)) (step_names tree.steps.items) [] tree.relations.items))
    (steps_named (tags_of tree.declarations.items) tree.relations.items [] tree.steps.items)

bodies_named : (bodies : List CheckFault) → AreNamed (map body_fault bodies)
bodies_named [] = none
bodies_named (fault ∷ more) = record { each = (tt, (bodies_named more).each) }

first_named : (faults : List At) (kind : GraphError) (place : ℕ) → AreNamed faults → slice_get faults 0 ≡ Some (kind, place) → IsNamed kind
first_named [] kind place named first = absurd (cc)
first_named (fault ∷ more) kind place named first = let same : fault.0 ≡ kind = cc in subst IsNamed same named.each.0

named_cause : (text : List ℕ) (kind : GraphError) (place : ℕ) → IsNamed kind → IsPlain text → IsFirstFault text kind place → IsCause text kind place
named_cause text error.NotAscii place named plain fault = absurd named
named_cause text error.Syntax place named plain fault = absurd named
named_cause text error.TooLarge place named plain fault = absurd named
named_cause text error.NoMemory place named plain fault = absurd named
named_cause text _ place named plain fault = (plain, fault)

tree_cause : (text : List ℕ) (tree : Tree) (kind : GraphError) (place : ℕ) → IsPlain text → IsRead text tree → IsTreeFault tree kind place → IsCause text kind place
tree_cause text tree kind place plain read fault =
    let bodies : List CheckFault = body_faults tree tree.steps.items in
    named_cause text kind place (first_named (tree_faults tree ++ map body_fault bodies) kind place (both _ _ (tree_named tree) (bodies_named bodies)) fault) plain
    (record { tree = tree; read = read; first = fault })

module _ (text : List ℕ) (tree : Tree) (plain : IsPlain text) (read : IsRead text tree) where
  -- the text reads as the graph
  pub read_text : {V : Type 0} (Spelled : Graph × V → Type 0) (result : Result (Graph × V) PlacedFault) → IfOk result (λ both. (tree_faults tree ≡ []) × IsGraphOf tree both.0)
      → IfOk result (λ both. Spelled both × (length (canonical both.0) ≤ MOST_TEXT)) → IfOk result (λ both. Reads text both.0)
  read_text Spelled (Ok both) graph short = record { short = plain.0; ascii = plain.1; tree = tree; read = read; no_fault = graph.0; graph = graph.1; canonical = short.1 }
  read_text Spelled (Err fault) graph short = tt

  -- its faults
  pub its_faults : {X : Type 0} (result : Result X PlacedFault) → IfErr result (λ fault. (fault ≡ no_memory) ⊎ IsTreeFault tree fault.error fault.position ⊎ ((fault ≡ too_large) × IsLong tree))
      → IfErr result (λ fault. (fault ≡ no_memory) ⊎ IsCause text fault.error fault.position)
  its_faults (Ok value) cause = tt
  its_faults (Err fault) (inl memory) = inl memory
  its_faults (Err fault) (inr (inl first)) = inr (tree_cause text tree fault.error fault.position plain read first)
  its_faults (Err fault) (inr (inr long)) =
      inr (subst (λ (it : PlacedFault). IsCause text it.error it.position) (sym long.0)
      (inl (refl, inr (plain, record { tree = tree; read = read; no_fault = long.1.no_fault; g = long.1.g; graph = long.1.graph; long = long.1.long }))))
