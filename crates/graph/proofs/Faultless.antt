-- The first of the faults of several parts; what holds of a tree without a fault: its names differ, and its steps have the right numbers of parameters.
use Rattle.std.proofs.Common.{◌≡◌, List, [], ◌∷◌, ◌++◌, sym, ap, subst, inl, inr, ℕ, zero, suc, Bool, false, if◌then◌else◌, Option, Some, None, map, refl, ◌∙◌, append_assoc, slice_get, arith}
use Rattle.std.specs.Prelude.{Result, Ok, Err, IfErr, IsErrAnd, MatchResult, option_map, is_some}
use Rattle.graph.specs.declared.fault.PlacedFault.{PlacedFault}
use Rattle.graph.specs.Faults.{At, fault_if, or_else, has, repeated, declaration_faults, relation_faults, step_faults, arity_faults, tree_faults}
use Rattle.graph.specs.Placed.{IsFirst}
use Rattle.std.proofs.lemmas.List.{append-nil}
use Rattle.std.specs.List.{IsDistinct}
use Rattle.std.specs.Str.{bytes_eq}
use Rattle.steptree.specs.declared.step.Name.{Name}
use Rattle.steptree.specs.declared.step.Step.{Step as NamedStep}
use Rattle.steptree.specs.Names.{Text, is_text, place_of, names_in}
use Rattle.steptree.specs.Nameable.{Collection}
use Rattle.syntax.specs.declared.tree.Declaration.{Declaration}
use Rattle.syntax.specs.declared.tree.Declaration.TheVariants as declared
use Rattle.syntax.specs.declared.tree.Relation.{Relation}
use Rattle.syntax.specs.declared.tree.Tree.{Tree}
use Rattle.graph.specs.declared.fault.GraphError.{GraphError}
use Rattle.graph.specs.declared.fault.GraphError.TheVariants.{Redeclared, StepTwice}
use Rattle.graph.specs.Tree.{text_of, items_of, tags_of, step_names, prescriber_of}
use Rattle.graph.proofs.Texts.{texts_are_bytes}
use Rattle.graph.proofs.Lists.{each_of_both}

pub empty_in_front : (xs ys : List At) → xs ≡ [] → xs ++ ys ≡ ys
empty_in_front xs ys none = ap (λ l. l ++ ys) none

-- if the front part has a fault, its first fault is the first of all
pub in_front : (front others : List At) (fault : PlacedFault) → IsFirst front fault → IsFirst (front ++ others) fault
in_front [] others fault (inl memory) = inl memory
in_front [] others fault (inr first) = absurd (cc)
in_front (x ∷ front) others fault first = first

-- if the front part has no fault, the first of the others is the first of all
pub behind_none : (front others : List At) (fault : PlacedFault) → front ≡ [] → IsFirst others fault → IsFirst (front ++ others) fault
behind_none front others fault none first = subst (λ (l : List At). IsFirst l fault) (sym (empty_in_front front others none)) first

-- a fault that is passed on, whatever is known of a value
pub fault_passed_on : {X : Type 0} (P : X → Type 0) (Q : PlacedFault → Type 0) (result : Result X PlacedFault) (fault : PlacedFault) → IsErrAnd result (λ other. other ≡ fault) → Q fault → MatchResult result P Q
fault_passed_on P Q (Ok value) fault is it = absurd is
fault_passed_on P Q (Err other) fault is it = subst Q (sym is) it

-- the same, if nothing is known of a value
pub err_passed_on : {X : Type 0} (Q : PlacedFault → Type 0) (result : Result X PlacedFault) (fault : PlacedFault) → IsErrAnd result (λ other. other ≡ fault) → Q fault → IfErr result Q
err_passed_on Q (Ok value) fault is it = absurd is
err_passed_on Q (Err other) fault is it = subst Q (sym is) it

-- ---- lists that are empty

pub first_empty : {X : Type 0} (xs ys : List X) → xs ++ ys ≡ [] → xs ≡ []
first_empty [] ys none = refl
first_empty (x ∷ xs) ys none = absurd (cc)

pub second_empty : {X : Type 0} (xs ys : List X) → xs ++ ys ≡ [] → ys ≡ []
second_empty [] ys none = none
second_empty (x ∷ xs) ys none = absurd (cc)

-- of two lists of which the second counts only if the first is empty
pub first_none : (xs ys : List At) → or_else xs ys ≡ [] → (xs ≡ []) × (ys ≡ [])
first_none xs ys none = grind arith

pub not_so : (holds : Bool) (error : GraphError) (position : ℕ) → fault_if holds error position ≡ [] → holds ≡ false
not_so holds error position none = grind arith

-- ---- names that differ

not_there : (place : Option ℕ) → is_some place ≡ false → place ≡ None
not_there place none = grind arith

not_first : (same : Bool) (rest : Option ℕ) → (if same then Some zero else option_map suc rest) ≡ None → (same ≡ false) × (rest ≡ None)
not_first same rest none = grind arith

one_more : (names : List Text) (name : Text) → IsDistinct bytes_eq names → place_of names name ≡ None → IsDistinct bytes_eq (names ++ name ∷ [])
unfolding IsDistinct
one_more [] name distinct none = (tt, tt)
one_more (first ∷ names) name distinct none =
    let other = not_first (is_text first name) (place_of names name) none in
    (each_of_both (λ y. bytes_eq first y ≡ false) names (name ∷ []) distinct.0 (sym (texts_are_bytes first name) ∙ other.0, tt), one_more names name distinct.1 other.1)

new_name : (names : List Text) (name : Name) (error : GraphError) → IsDistinct bytes_eq names → fault_if (has names name) error name.place ≡ [] → IsDistinct bytes_eq (names ++ text_of name ∷ [])
new_name names name error distinct none =
    one_more names (text_of name) distinct (not_there (place_of names (text_of name)) (not_so (has names name) error name.place none))

-- ---- declarations

behind : (names : List Text) (name : Text) (more : List Text) → IsDistinct bytes_eq ((names ++ name ∷ []) ++ more) → IsDistinct bytes_eq (names ++ name ∷ more)
behind names name more distinct = subst (IsDistinct bytes_eq) (append_assoc names (name ∷ []) more) distinct

at_end : (names : List Text) → IsDistinct bytes_eq names → IsDistinct bytes_eq (names ++ [])
at_end names distinct = subst (IsDistinct bytes_eq) (sym (append-nil names)) distinct

abbrev Apart : List Text → List Text → List Declaration → Type 0
Apart items tags ds = IsDistinct bytes_eq (items ++ names_in (items_of ds)) × IsDistinct bytes_eq (tags ++ names_in (tags_of ds))

declared_apart : (items tags : List Text) (ds : List Declaration) → declaration_faults items tags ds ≡ [] → IsDistinct bytes_eq items → IsDistinct bytes_eq tags → Apart items tags ds
declared_apart items tags [] none one two = (at_end items one, at_end tags two)
declared_apart items tags (declared.Item name components ∷ more) none one two =
    let rest = declared_apart (items ++ text_of name ∷ []) tags more (search second_empty) (new_name items name Redeclared one (search first_empty)) two in
    (behind items (text_of name) (names_in (items_of more)) rest.0, rest.1)
declared_apart items tags (declared.Tag name components ∷ more) none one two =
    let rest = declared_apart items (tags ++ text_of name ∷ []) more (search second_empty) one (new_name tags name Redeclared two (search first_empty)) in
    (rest.0, behind tags (text_of name) (names_in (tags_of more)) rest.1)

-- ---- names in a step

names_apart_behind : (before : List Text) (names : List Name) → repeated before names ≡ [] → IsDistinct bytes_eq before → IsDistinct bytes_eq (before ++ map text_of names)
names_apart_behind before [] none distinct = at_end before distinct
names_apart_behind before (name ∷ names) none distinct =
    let rest = names_apart_behind (before ++ text_of name ∷ []) names (search second_empty) (new_name before name Redeclared distinct (search first_empty)) in
    behind before (text_of name) (map text_of names) rest

pub names_in_step_apart : (names : List Name) → repeated [] names ≡ [] → IsDistinct bytes_eq (map text_of names)
unfolding IsDistinct
names_in_step_apart names none = names_apart_behind [] names none tt

-- ---- steps

module _ (tags : List Collection) (relations : List Relation) where
  abbrev pub heading : List Text → NamedStep → List At
  heading before step = or_else (fault_if (has before step.name) StepTwice step.name.place) (arity_faults tags (prescriber_of relations (text_of step.name)) step)

  abbrev pub naming : NamedStep → List At
  naming step = repeated [] (step.parameters.items ++ step.variables.items)

  pub later : (before : List Text) (step : NamedStep) (more : List NamedStep) → step_faults tags relations before (step ∷ more) ≡ [] → step_faults tags relations (before ++ text_of step.name ∷ []) more ≡ []
  later before step more none = second_empty (heading before step ++ naming step) _ none

  pub own_names : (before : List Text) (step : NamedStep) (more : List NamedStep) → step_faults tags relations before (step ∷ more) ≡ [] → naming step ≡ []
  own_names before step more none = second_empty (heading before step) (naming step) (first_empty (heading before step ++ naming step) _ none)

  at_head : (before : List Text) (step : NamedStep) (more : List NamedStep) → step_faults tags relations before (step ∷ more) ≡ [] → heading before step ≡ []
  at_head before step more none = first_empty (heading before step) (naming step) (first_empty (heading before step ++ naming step) _ none)

  steps_apart : (before : List Text) (steps : List NamedStep) → step_faults tags relations before steps ≡ [] → IsDistinct bytes_eq before → IsDistinct bytes_eq (before ++ step_names steps)
  steps_apart before [] none distinct = at_end before distinct
  steps_apart before (step ∷ more) none distinct =
      let once = first_none (fault_if (has before step.name) StepTwice step.name.place) _ (at_head before step more none) in
      behind before (text_of step.name) (step_names more) (steps_apart (before ++ text_of step.name ∷ []) more (later before step more none) (new_name before step.name StepTwice distinct once.0))

  right_arity : (before : List Text) (steps : List NamedStep) (number : ℕ) (step : NamedStep) → step_faults tags relations before steps ≡ [] → slice_get steps number ≡ Some step
      → arity_faults tags (prescriber_of relations (text_of step.name)) step ≡ []
  right_arity before [] number step none there = absurd (cc)
  right_arity before (first ∷ more) zero step none there =
      let same : first ≡ step = cc in
      subst (λ (s : NamedStep). arity_faults tags (prescriber_of relations (text_of s.name)) s ≡ []) same
      (first_none (fault_if (has before first.name) StepTwice first.name.place) _ (at_head before first more none)).1
  right_arity before (first ∷ more) (suc number) step none there = right_arity (before ++ text_of first.name ∷ []) more number step (later before first more none) there

-- ---- trees

module _ (tree : Tree) (none : tree_faults tree ≡ []) where
  abbrev of_declarations : List At
  of_declarations = declaration_faults [] [] tree.declarations.items

  abbrev of_relations : List At
  of_relations = relation_faults (names_in (items_of tree.declarations.items)) (names_in (tags_of tree.declarations.items)) (step_names tree.steps.items) [] tree.relations.items

  abbrev pub of_steps : List At
  of_steps = step_faults (tags_of tree.declarations.items) tree.relations.items [] tree.steps.items

  pub no_step : of_steps ≡ []
  no_step = second_empty (of_declarations ++ of_relations) of_steps none

  names_apart : Apart [] [] tree.declarations.items
  unfolding IsDistinct
  names_apart = declared_apart [] [] tree.declarations.items (first_empty of_declarations of_relations (first_empty (of_declarations ++ of_relations) of_steps none)) tt tt

  pub items_apart : IsDistinct bytes_eq (names_in (items_of tree.declarations.items))
  items_apart = names_apart.0

  pub tags_apart : IsDistinct bytes_eq (names_in (tags_of tree.declarations.items))
  tags_apart = names_apart.1

  pub step_names_apart : IsDistinct bytes_eq (step_names tree.steps.items)
  unfolding IsDistinct
  step_names_apart = steps_apart (tags_of tree.declarations.items) tree.relations.items [] tree.steps.items no_step tt

  pub no_arity : (number : ℕ) (step : NamedStep) → slice_get tree.steps.items number ≡ Some step → arity_faults (tags_of tree.declarations.items) (prescriber_of tree.relations.items (text_of step.name)) step ≡ []
  no_arity number step there = right_arity (tags_of tree.declarations.items) tree.relations.items [] tree.steps.items number step no_step there
