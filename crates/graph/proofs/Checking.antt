-- Names of steps and in steps, and the steps, one after another.
use Rattle.std.proofs.Common.{◌≡◌, ◌<◌, ℕ, true, List, [], ◌∷◌, ◌++◌, length, get_or, take, drop, Some, None, Option, if◌then◌else◌, refl, sym, ap, subst, ◌∙◌, ◌+◌, arith, append_assoc, is_some, zero}
use Rattle.std.proofs.Common.{suc, Bool, false, not, slice_get}
use Rattle.std.proofs.lemmas.List.{take_more, map-append, length-map, length-take-le, append-nil, take-append-drop, drop_all, get_or_default}
use Rattle.steptree.specs.declared.step.Name.{Name}
use Rattle.steptree.specs.declared.step.Step.{Step as NamedStep}
use Rattle.steptree.specs.Names.{Text, is_text, place_of, names_in}
use Rattle.steptree.specs.Statements.{texts}
use Rattle.graph.specs.declared.fault.GraphError.TheVariants.{Redeclared, StepTwice, Arity}
use Rattle.graph.specs.declared.fault.PlacedFault.{PlacedFault}
use Rattle.graph.specs.Faults.{At, fault_if, has, repeated, or_else, step_faults, arity_faults, components_of, is_other}
use Rattle.graph.specs.Numbered.{names_numbered, found}
use Rattle.graph.specs.Placed.{IsFirst}
use Rattle.graph.specs.Steps.{ArePlaces, components_faults, components_by}
use Rattle.graph.specs.Tree.{text_of, step_names, prescriber_of}
use Rattle.graph.proofs.Faultless.{in_front, empty_in_front, behind_none}
use Rattle.graph.proofs.Lists.{opened}
use Rattle.graph.proofs.Texts.{one_text, itself}
use Rattle.std.proofs.lemmas.Bool.Decides.{nat_tests}
use Rattle.std.specs.Prelude.{option_map}
use Rattle.terms.specs.declared.name.TagCollection.{TagCollection}
use Rattle.syntax.specs.declared.tree.Relation.{Relation}
use Rattle.graph.specs.declared.relations.Relations.{Relations}
use Rattle.graph.specs.Marks.{IsPrescriber, prescriber_at}
use Rattle.graph.specs.Relations.{AreRelations}
use Rattle.std.specs.Option.{option_eq}
use Rattle.std.proofs.Math.Dec.{eqb}
use Rattle.steptree.specs.Nameable.{Collection}
use Rattle.graph.specs.declared.fault.GraphError.{GraphError}

-- ---- names in a step

pub repeated_both : (before : List Text) (one two : List Name) → repeated before (one ++ two) ≡ repeated before one ++ repeated (before ++ texts one) two
repeated_both before [] two = ap (λ (l : List Text). repeated l two) (sym (append-nil before))
repeated_both before (name ∷ one) two =
    ap (λ (l : List At). fault_if (has before name) Redeclared name.place ++ l)
    (repeated_both (before ++ text_of name ∷ []) one two ∙ ap (λ (l : List Text). repeated (before ++ text_of name ∷ []) one ++ repeated l two) (append_assoc before (text_of name ∷ []) (texts one)))
    ∙ sym (append_assoc (fault_if (has before name) Redeclared name.place) (repeated (before ++ text_of name ∷ []) one) (repeated (before ++ text_of name ∷ texts one) two))

-- the names of a step: first those of the parameters
module _ (parameters variables : List Name) where
  pub first_of_parameters : (fault : PlacedFault) → IsFirst (repeated [] parameters) fault → IsFirst (repeated [] (parameters ++ variables)) fault
  first_of_parameters fault first = subst (λ (l : List At). IsFirst l fault) (sym (repeated_both [] parameters variables)) (in_front (repeated [] parameters) _ fault first)

  pub of_variables : repeated [] parameters ≡ [] → repeated [] (parameters ++ variables) ≡ repeated (texts parameters) variables
  of_variables none = repeated_both [] parameters variables ∙ empty_in_front (repeated [] parameters) _ none

module _ (before : List Text) (more : List Name) where
  pub record AddedSoFar (index : ℕ) (names : List Text) : Type 0 where
    pub added : names ++ texts (drop index more) ≡ before ++ texts more
    pub left : repeated before more ≡ repeated names (drop index more)

  module _ (index : ℕ) (names : List Text) (this : Name) (within : index < length more) (is : this ≡ get_or more index this) (so : AddedSoFar index names) where
    repeated_here : repeated before more ≡ fault_if (has names this) Redeclared this.place ++ repeated (names ++ text_of this ∷ []) (drop (index + 1) more)
    repeated_here = so.left ∙ ap (repeated names) (opened more index this within is)

    pub one_added : (new : List Text) → fault_if (has names this) Redeclared this.place ≡ [] → new ≡ names ++ text_of this ∷ [] → AddedSoFar (index + 1) new
    one_added new none now = record {
      added = ap (λ (l : List Text). l ++ texts (drop (index + 1) more)) now ∙ append_assoc names (text_of this ∷ []) (texts (drop (index + 1) more))
          ∙ ap (λ (l : List Name). names ++ texts l) (sym (opened more index this within is)) ∙ so.added;
      left = repeated_here ∙ empty_in_front (fault_if (has names this) Redeclared this.place) _ none ∙ ap (λ (l : List Text). repeated l (drop (index + 1) more)) (sym now);
    }

    pub first_repeated : (fault : PlacedFault) → IsFirst (fault_if (has names this) Redeclared this.place) fault → IsFirst (repeated before more) fault
    first_repeated fault first = subst (λ (l : List At). IsFirst l fault) (sym repeated_here) (in_front (fault_if (has names this) Redeclared this.place) _ fault first)

  pub all_added : (index : ℕ) (names : List Text) → index ≡ length more → AddedSoFar index names → (repeated before more ≡ []) × (names ≡ before ++ texts more)
  all_added index names end so =
      let rest : drop index more ≡ [] = drop_all index more (omega (arith, end)) in
      (so.left ∙ ap (repeated names) rest, sym (append-nil names) ∙ ap (λ (l : List Name). names ++ texts l) (sym rest) ∙ so.added)

-- ---- names of steps

abbrev either_place : Option ℕ → Option ℕ → Option ℕ
either_place None other = other
either_place (Some place) other = Some place

found_both : (numbered : List (Text × ℕ)) (name : Text) (number : ℕ) (text : Text)
    → found (numbered ++ (name, number) ∷ []) text ≡ either_place (found numbered text) (if is_text name text then Some number else None)
found_both [] name number text = refl
found_both (entry ∷ numbered) name number text = grind (arith, found_both numbered name number text)

place_of_both : (names : List Text) (name text : Text) → place_of (names ++ name ∷ []) text ≡ either_place (place_of names text) (if is_text name text then Some (length names) else None)
place_of_both [] name text = grind arith
place_of_both (first ∷ names) name text = grind (arith, place_of_both names name text)

-- a name has a number exactly if it is in the list
is_found : (numbered : List (Text × ℕ)) (text : Text) → is_some (found numbered text) ≡ is_some (place_of (names_numbered numbered) text)
is_found [] text = refl
is_found (entry ∷ numbered) text = grind (arith, is_found numbered text)

pub new_name : (numbered : List (Text × ℕ)) (names : List Text) (name : Text) (number : ℕ) → length names ≡ number → ArePlaces numbered names → ArePlaces (numbered ++ (name, number) ∷ []) (names ++ name ∷ [])
new_name numbered names name number many are = λ text.
    found_both numbered name number text ∙ (λ i. either_place (are text i) (if is_text name text then Some (sym many i) else None)) ∙ sym (place_of_both names name text)

pub old_name : (numbered : List (Text × ℕ)) (names : List Text) (name : Text) → is_some (place_of (names_numbered numbered) name) ≡ true → ArePlaces numbered names → ArePlaces numbered (names ++ name ∷ [])
old_name numbered names name there are = λ text. are text ∙ sym (place_of_both names name text ∙ kept text)
  where
    known : is_some (place_of names name) ≡ true
    known = ap is_some (sym (are name)) ∙ is_found numbered name ∙ there

    kept : (text : Text) → either_place (place_of names text) (if is_text name text then Some (length names) else None) ≡ place_of names text
    kept text = grind (arith, one_text name text, known)

module _ (steps : List NamedStep) (index : ℕ) (this : NamedStep) (within : index < length steps) (is : this ≡ get_or steps index this) where
  pub one_more_named : step_names (take index steps) ++ text_of this.name ∷ [] ≡ step_names (take (index + 1) steps)
  one_more_named = sym (ap step_names (take_more steps index this within ∙ ap (λ (s : NamedStep). take index steps ++ s ∷ []) (sym is)) ∙ map-append (λ step. text_of step.name) (take index steps) (this ∷ []))

  pub so_many : length (step_names (take index steps)) ≡ index
  so_many = length-map (take index steps) (λ (step : NamedStep). text_of step.name) ∙ length-take-le index steps (omega (arith, within))

-- ---- components

-- the collection with a number is the one that its name finds
pub found_collection : (tags : List Collection) (tag : Text) (number : ℕ) → place_of (names_in tags) tag ≡ Some number
    → (it : Collection) × (slice_get tags number ≡ Some it) × (components_of tags tag ≡ Some it.components)
found_collection [] tag number there = absurd (cc)
found_collection (first ∷ tags) tag zero there = (first, refl, grind arith)
found_collection (first ∷ tags) tag (suc number) there = let rest = found_collection tags tag number (grind arith) in (rest.0, rest.1, grind (arith, rest.2))

arity : (tags : List Collection) (step : NamedStep) (tag : Option Text) (number : Option TagCollection) → IsPrescriber (names_in tags) tag number
    → arity_faults tags tag step ≡ components_faults (components_by tags number) step
arity tags step None number is = ap (λ (n : Option TagCollection). components_faults (components_by tags n) step) (sym is)
arity tags step (Some tag) None is = absurd is
arity tags step (Some tag) (Some number) is =
    let there = found_collection tags tag number.0 is in
    ap (λ (o : Option ℕ). fault_if (is_other o (length step.parameters.items)) Arity step.name.place) there.2 ∙ ap (λ (o : Option Collection). components_faults (option_map (λ declared. declared.components) o) step) (sym there.1)

-- ---- steps that appear twice

-- a name appears before a number exactly if its first place is not this number
own : (names : List Text) (name : Text) (more : List Text) → not (option_eq eqb (place_of (names ++ name ∷ more) name) (Some (length names))) ≡ is_some (place_of names name)
own [] name more = grind (arith, nat_tests, itself name)
own (first ∷ names) name more = grind (arith, nat_tests, own names name more)

its_place : (place : Option ℕ) (number : ℕ) (twice : Bool) → twice ≡ not (option_eq eqb place (Some number)) → twice ≡ false → place ≡ Some number
its_place place number twice tells once = grind (arith, nat_tests)

-- faults that count only if there is no other
if_once : (twice : Bool) (error : GraphError) (position : ℕ) (xs ys : List At) → (twice ≡ false → xs ≡ ys) → or_else (fault_if twice error position) xs ≡ or_else (fault_if twice error position) ys
if_once true error position xs ys same = refl
if_once false error position xs ys same = same refl

module _ (tags : List Collection) (items : List Text) (all : List Relation) (steps : List NamedStep) (relations : Relations)
    (are : AreRelations items (names_in tags) (step_names steps) all relations) where
  abbrev pub IsLeft : ℕ → Type 0
  IsLeft index = step_faults tags all [] steps ≡ step_faults tags all (step_names (take index steps)) (drop index steps)

  module _ (index : ℕ) (this : NamedStep) (within : index < length steps) (is : this ≡ get_or steps index this) (left : IsLeft index) (place : Option ℕ)
      (found : place ≡ place_of (step_names steps) (text_of this.name)) (twice : Bool) (tells : twice ≡ not (option_eq eqb place (Some index))) (prescriber : Option TagCollection)
      (by : prescriber ≡ get_or relations.prescribers.items index prescriber) (components : Option ℕ) (theirs : components ≡ components_by tags prescriber) where
    abbrev pub prescription : List At
    prescription = or_else (fault_if twice StepTwice this.name.place) (components_faults components this)

    whole : step_names steps ≡ step_names (take index steps) ++ text_of this.name ∷ step_names (drop (index + 1) steps)
    whole = ap step_names (sym (take-append-drop index steps)) ∙ map-append (λ step. text_of step.name) (take index steps) (drop index steps)
        ∙ ap (λ (l : List NamedStep). step_names (take index steps) ++ step_names l) (opened steps index this within is)

    stands_before : twice ≡ has (step_names (take index steps)) this.name
    stands_before =
        tells ∙ (λ i. not (option_eq eqb ((found ∙ ap (λ (l : List Text). place_of l (text_of this.name)) whole) i) (Some (sym (so_many steps index this within is) i))))
        ∙ own (step_names (take index steps)) (text_of this.name) (step_names (drop (index + 1) steps))

    its_components : twice ≡ false → arity_faults tags (prescriber_of all (text_of this.name)) this ≡ components_faults components this
    its_components once =
        let here : place_of (step_names steps) (text_of this.name) ≡ Some index = sym found ∙ its_place place index twice tells once in
        let inside : index < length relations.prescribers.items = omega (arith, within, are.prescribers.long, length-map steps (λ (step : NamedStep). text_of step.name)) in
        arity tags this (prescriber_of all (text_of this.name)) prescriber
        (subst (IsPrescriber (names_in tags) (prescriber_of all (text_of this.name))) (ap (prescriber_at relations.prescribers.items) here ∙ get_or_default _ index None prescriber inside ∙ sym by)
        (are.prescribers.each (text_of this.name)))
        ∙ ap (λ (o : Option ℕ). components_faults o this) (sym theirs)

    same_prescription : or_else (fault_if (has (step_names (take index steps)) this.name) StepTwice this.name.place) (arity_faults tags (prescriber_of all (text_of this.name)) this) ≡ prescription
    same_prescription =
        ap (λ (b : Bool). or_else (fault_if b StepTwice this.name.place) (arity_faults tags (prescriber_of all (text_of this.name)) this)) (sym stands_before)
        ∙ if_once twice StepTwice this.name.place _ _ its_components

    abbrev pub naming : List At
    naming = repeated [] (this.parameters.items ++ this.variables.items)

    here : step_faults tags all [] steps ≡ prescription ++ naming ++ step_faults tags all (step_names (take index steps) ++ text_of this.name ∷ []) (drop (index + 1) steps)
    here = left ∙ ap (step_faults tags all (step_names (take index steps))) (opened steps index this within is)
        ∙ ap (λ (l : List At). l ++ naming ++ step_faults tags all (step_names (take index steps) ++ text_of this.name ∷ []) (drop (index + 1) steps)) same_prescription

    pub first_prescription : (fault : PlacedFault) → IsFirst prescription fault → IsFirst (step_faults tags all [] steps) fault
    first_prescription fault first = subst (λ (l : List At). IsFirst l fault) (sym here) (in_front (prescription ++ naming) _ fault (in_front prescription naming fault first))

    pub first_name : (fault : PlacedFault) → prescription ≡ [] → IsFirst naming fault → IsFirst (step_faults tags all [] steps) fault
    first_name fault none first = subst (λ (l : List At). IsFirst l fault) (sym here) (in_front (prescription ++ naming) _ fault (behind_none prescription naming fault none first))

    pub next_step : prescription ≡ [] → naming ≡ [] → IsLeft (index + 1)
    next_step none differ =
        here ∙ empty_in_front (prescription ++ naming) _ (empty_in_front prescription naming none ∙ differ)
        ∙ ap (λ (l : List Text). step_faults tags all l (drop (index + 1) steps)) (one_more_named steps index this within is)

  pub all_checked : (index : ℕ) → index ≡ length steps → IsLeft index → step_faults tags all [] steps ≡ []
  all_checked index end left = left ∙ ap (step_faults tags all (step_names (take index steps))) (drop_all index steps (omega (arith, end)))
