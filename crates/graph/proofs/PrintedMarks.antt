-- What the printed relations mark and prescribe is what the graph says; no two of them are equal, and so they are without a fault.
use Rattle.std.proofs.Common.{◌≡◌, ℕ, zero, suc, Bool, false, ◌&&◌, if◌then◌else◌, List, [], ◌∷◌, ◌++◌, length, get_or, map, Some, refl, ap, subst, ◌∙◌, append_assoc, arith, true, ◌||◌, None, sym, Option}
use Rattle.std.proofs.lemmas.List.Folds.{list_any-append}
use Rattle.std.proofs.Math.Bool.{and_comm, or-false}
use Rattle.graph.proofs.Lists.{any_agree, each, each_of_both, each_mapped, no_both, each_weaker, each_flat}
use Rattle.std.specs.Prelude.{slice_get, is_some, ⊤}
use Rattle.std.specs.List.{AllByRecursion, flat_map, list_any}
use Rattle.steptree.specs.Names.{Text, is_text, names_in, place_of}
use Rattle.syntax.specs.declared.tree.Relation.{Relation as Related}
use Rattle.syntax.specs.Grammar.{Relation, prescribes}
use Rattle.syntax.specs.Tree.{AreAll}
use Rattle.graph.specs.Graph.{Graph, Step}
use Rattle.graph.specs.Tree.{each_of, prescriber_of}
use Rattle.graph.specs.Prescribed.{names_of_steps}
use Rattle.graph.specs.Canonical.{those}
use Rattle.graph.proofs.PrintedApart.{any_and, Apart, flipped, is_among, marks_back, any_mapped, any_flat, Clear, apart_both, clear_of_both, marked_apart}
use Rattle.graph.proofs.PrintedRelations.{Shape, a_prescription, a_read, an_item_put, a_tag_put, shape_of, Shaped, step_shapes, environment_shapes, shapes, tree_relation, bare, shapes_back, told}
use Rattle.graph.proofs.PrintedRelations.{other_name, only_one, any_false, an_environment_item, an_environment_tag, an_environment_get, Names}
use Rattle.graph.proofs.Texts.{itself, same_both_ways}
use Rattle.std.proofs.lemmas.List.{map-append}
use Rattle.graph.specs.Faults.{same_relation, relation_fault, relation_faults}
use Rattle.graph.proofs.PrintedBlocks.{many_names}
use Rattle.steptree.specs.Nameable.{Collection}

pub behind_step : (b : Bool) (texts : List Text) (text : Text) → list_any (λ (it : Text). b && is_text it text) texts ≡ (is_among texts text && b)
behind_step b texts text = any_agree (λ (it : Text). b && is_text it text) (λ (it : Text). is_text it text && b) texts (λ it. and_comm b (is_text it text)) ∙ any_and (λ (it : Text). is_text it text) b texts

-- what some relation of a list passes, list by list
pub ruleset in_lists = (list_any-append, any_mapped, any_flat, any_false, or-false, any_and, behind_step)

module _ (g : Graph) (relations : List Relation) (all : AreAll Shaped (shapes g) relations) where
  -- a test that the relations of one kind alone pass, for the names that are marked
  pub marks_told : (test : Text → Related → Bool) → ((text : Text) (d : Relation) → test text (tree_relation d) ≡ test text (bare (shape_of d)))
      → (collections : List Collection) (marks : List Bool) → ((text : Text) → list_any (λ (s : Shape). test text (bare s)) (shapes g) ≡ is_among (those collections marks) text)
      → Apart is_text (names_in collections) → length marks ≡ length collections → each_of test (map tree_relation relations) (names_in collections) ≡ marks
  marks_told test same collections marks found apart many =
      (λ i. map (λ text. (told (test text) (same text) (shapes g) relations all ∙ found text) i) (names_in collections))
      ∙ marks_back (names_in collections) marks apart (many ∙ sym (many_names collections))

  -- the same for a kind of relations of a step
  pub step_marks_told : (test : Text → Text → Related → Bool) → ((name text : Text) (d : Relation) → test name text (tree_relation d) ≡ test name text (bare (shape_of d)))
      → (collections : List Collection) (marks : Step → List Bool)
      → ((name text : Text) → list_any (λ (s : Shape). test name text (bare s)) (shapes g) ≡ list_any (λ other. is_among (those collections (marks other)) text && is_text other.name name) g.steps)
      → (index : ℕ) (step : Step) → slice_get g.steps index ≡ Some step → Apart is_text (names_of_steps g.steps) → Apart is_text (names_in collections) → length (marks step) ≡ length collections
      → each_of (test step.name) (map tree_relation relations) (names_in collections) ≡ marks step
  step_marks_told test same collections marks found index step there steps_apart =
      marks_told (test step.name) (same step.name) collections (marks step)
      (λ text. found step.name text ∙ only_one (λ other. is_among (those collections (marks other)) text) g.steps index step there steps_apart)

-- ---- who prescribes a step

prescriber_told : (step : Text) (relations : List Relation) → prescriber_of (map tree_relation relations) step ≡ prescriber_of (map bare (map shape_of relations)) step
prescriber_told step [] = refl
prescriber_told step (prescribes one two ∷ more) = λ i. if is_text two.0 step then Some one.0 else prescriber_told step more i
prescriber_told step (_ ∷ more) = prescriber_told step more

-- relations that prescribe nothing
skipped : (step : Text) (make : Text → Shape) → ((text : Text) (more : List Related) → prescriber_of (bare (make text) ∷ more) step ≡ prescriber_of more step) → (texts : List Text) (behind : List Shape)
    → prescriber_of (map bare (map make texts ++ behind)) step ≡ prescriber_of (map bare behind) step
skipped step make none [] behind = refl
skipped step make none (text ∷ texts) behind = none text (map bare (map make texts ++ behind)) ∙ skipped step make none texts behind

-- of the relations of a step only the first prescribes it
by_step : (g : Graph) (first : Step) (steps : List Step) (behind : List Shape) (step : Text) → prescriber_of (map bare (flat_map (step_shapes g) (first ∷ steps) ++ behind)) step
    ≡ (if is_text first.name step then Some (get_or (names_in g.tags) first.prescriber []) else prescriber_of (map bare (flat_map (step_shapes g) steps ++ behind)) step)
by_step g first steps behind step =
    ap (λ (o : Option Text). if is_text first.name step then Some (get_or (names_in g.tags) first.prescriber []) else o) (simp (append_assoc, skipped))

-- of the relations of some steps
prescribed_among : (g : Graph) (steps : List Step) (behind : List Shape) (index : ℕ) (step : Step) → slice_get steps index ≡ Some step → Apart is_text (names_of_steps steps)
    → prescriber_of (map bare (flat_map (step_shapes g) steps ++ behind)) step.name ≡ Some (get_or (names_in g.tags) step.prescriber [])
prescribed_among g [] behind index step there apart = absurd (cc)
prescribed_among g (first ∷ steps) behind zero step there apart =
    let same : first ≡ step = cc in
    by_step g first steps behind step.name ∙ rw (same, itself step.name) refl
prescribed_among g (first ∷ steps) behind (suc index) step there apart =
    by_step g first steps behind step.name
    ∙ rw (flipped step.name first.name (other_name first.name steps index step there apart.0)) (prescribed_among g steps behind index step there apart.1)

pub prescribed : (g : Graph) (relations : List Relation) → AreAll Shaped (shapes g) relations → (index : ℕ) (step : Step) → slice_get g.steps index ≡ Some step → Apart is_text (names_of_steps g.steps)
    → prescriber_of (map tree_relation relations) step.name ≡ Some (get_or (names_in g.tags) step.prescriber [])
prescribed g relations all index step there apart =
    prescriber_told step.name relations ∙ ap (λ (l : List Shape). prescriber_of (map bare l) step.name) (shapes_back (shapes g) relations all) ∙ prescribed_among g g.steps (environment_shapes g) index step there apart

-- whether a later relation repeats an earlier one; for prescriptions, whether they are of one step
abbrev pub clash : Shape → Shape → Bool
clash (a_prescription tag step) (a_prescription tag2 step2) = is_text step2 step
clash one two = same_relation (bare one) (bare two)

-- ---- faults

not_again : (d b : Relation) → clash (shape_of d) (shape_of b) ≡ false → same_relation (tree_relation d) (tree_relation b) ≡ false
not_again d b h = grind arith

none_before : (d : Relation) (before : List Relation) → AllByRecursion (λ shape. clash (shape_of d) shape ≡ false) (map shape_of before)
    → list_any (same_relation (tree_relation d)) (map tree_relation before) ≡ false
none_before d [] all = refl
none_before d (b ∷ before) all = ap (λ (x : Bool). x || list_any (same_relation (tree_relation d)) (map tree_relation before)) (not_again d b all.0) ∙ none_before d before all.1

not_prescribed : (tag step : Text) (before : List Relation) → AllByRecursion (λ shape. clash (a_prescription tag step) shape ≡ false) (map shape_of before) → prescriber_of (map tree_relation before) step ≡ None
not_prescribed tag step [] all = refl
not_prescribed tag step (prescribes one two ∷ before) all = ap (λ (b : Bool). if b then Some one.0 else prescriber_of (map tree_relation before) step) all.0 ∙ not_prescribed tag step before all.1
not_prescribed tag step (_ ∷ before) all = not_prescribed tag step before all.1

-- the name is among these
abbrev pub IsThere : List Text → Text → Type 0
IsThere names text = is_some (place_of names text) ≡ true

module _ (items tags steps : List Text) where
  -- what the relation names is there
  abbrev pub IsKnown : Shape → Type 0
  IsKnown shape = Names (IsThere items) (IsThere tags) (IsThere steps) shape

  one_without : (before : List Relation) (d : Relation) → IsKnown (shape_of d) → AllByRecursion (λ shape. clash (shape_of d) shape ≡ false) (map shape_of before)
      → relation_fault items tags steps (map tree_relation before) (tree_relation d) ≡ []
  one_without before (prescribes tag step) is all = simp (not_prescribed tag.0 step.0 before all, is.0, is.1)
  one_without before d is all = grind (arith, none_before d before all, is)

  pub relations_without_fault : (before relations : List Relation) → AllByRecursion IsKnown (map shape_of relations) → Apart clash (map shape_of relations)
      → Clear clash (map shape_of before) (map shape_of relations) → relation_faults items tags steps (map tree_relation before) (map tree_relation relations) ≡ []
  relations_without_fault before [] is apart clear = refl
  relations_without_fault before (d ∷ relations) is apart clear =
      let ones : AllByRecursion (λ y. AllByRecursion (λ x. clash y x ≡ false) (shape_of d ∷ [])) (map shape_of relations) =
      each_weaker (λ y. clash y (shape_of d) ≡ false) (λ y. AllByRecursion (λ x. clash y x ≡ false) (shape_of d ∷ [])) (λ y h. (h, tt)) (map shape_of relations) apart.0 in
      let more : Clear clash (map shape_of (before ++ d ∷ [])) (map shape_of relations) =
      subst (λ (l : List Shape). Clear clash l (map shape_of relations)) (sym (map-append shape_of before (d ∷ []))) (clear_of_both clash (map shape_of before) (shape_of d ∷ []) (map shape_of relations) clear.1 ones) in
      no_both _ _ (one_without before d is.0 clear.0)
      (ap (λ (l : List Related). relation_faults items tags steps l (map tree_relation relations)) (sym (map-append tree_relation before (d ∷ []))) ∙ relations_without_fault (before ++ d ∷ []) relations is.1 apart.1 more)

-- ---- no two of a graph's relations clash

apart_mapped : (make : Text → Shape) → ((one two : Text) → is_text one two ≡ false → clash (make one) (make two) ≡ false) → (texts : List Text) → Apart is_text texts → Apart clash (map make texts)
apart_mapped make tells [] apart = tt
apart_mapped make tells (first ∷ texts) apart = (
  each_mapped (λ y. clash y (make first) ≡ false) make texts (each_weaker (λ text. is_text text first ≡ false) (λ text. clash (make text) (make first) ≡ false) (λ text h. tells text first h) texts apart.0),
  apart_mapped make tells texts apart.1,
)

clear_mapped : (make other : Text → Shape) → ((one two : Text) → clash (other two) (make one) ≡ false) → (xs ys : List Text) → Clear clash (map make xs) (map other ys)
clear_mapped make other tells xs ys =
    each_mapped (λ y. AllByRecursion (λ x. clash y x ≡ false) (map make xs)) other ys
    (each (λ text. AllByRecursion (λ x. clash (other text) x ≡ false) (map make xs)) (λ text. each_mapped (λ x. clash (other text) x ≡ false) make xs (each (λ one. clash (other text) (make one) ≡ false) (λ one. tells one text) xs)) ys)

first_false : (a b : Bool) → a ≡ false → (a && b) ≡ false
first_false a b none = cc

second_false : (a b : Bool) → b ≡ false → (a && b) ≡ false
second_false a b none = grind arith

ruleset groups = (apart_both, clear_of_both, apart_mapped, clear_mapped, marked_apart, first_false, second_false)

-- a relation of the step with this name, and one of the environment
abbrev IsOfStep : Text → Shape → Type 0
IsOfStep name (a_prescription tag step) = step ≡ name
IsOfStep name (a_read item step) = step ≡ name
IsOfStep name (an_item_put step item) = step ≡ name
IsOfStep name (a_tag_put step tag) = step ≡ name
IsOfStep name shape = ⊥

abbrev IsOfEnvironment : Shape → Type 0
IsOfEnvironment (an_environment_item item) = ⊤
IsOfEnvironment (an_environment_tag tag) = ⊤
IsOfEnvironment (an_environment_get item) = ⊤
IsOfEnvironment shape = ⊥

other_step : (name other : Text) (one two : Shape) → IsOfStep name one → IsOfStep other two → is_text name other ≡ false → clash one two ≡ false
other_step name other one two x y h = grind (arith, same_both_ways)

not_of_step : (name : Text) (one two : Shape) → IsOfEnvironment one → IsOfStep name two → clash one two ≡ false
not_of_step name one two x y = grind arith

module _ (g : Graph) (items_apart : Apart is_text (names_in g.items)) (tags_apart : Apart is_text (names_in g.tags)) where
  all_of_step : (step : Step) → AllByRecursion (IsOfStep step.name) (step_shapes g step)
  all_of_step step = search (each_of_both, each_mapped, each)

  all_of_environment : AllByRecursion IsOfEnvironment (environment_shapes g)
  all_of_environment = search (each_of_both, each_mapped, each)

  step_apart : (step : Step) → Apart clash (step_shapes g step)
  step_apart step = (search (each_of_both, each_mapped, each), search (groups, items_apart, tags_apart) depth 9)

  two_steps : (one two : Step) → is_text two.name one.name ≡ false → Clear clash (step_shapes g one) (step_shapes g two)
  two_steps one two h =
      each_weaker (IsOfStep two.name) (λ y. AllByRecursion (λ x. clash y x ≡ false) (step_shapes g one))
      (λ y is. each_weaker (IsOfStep one.name) (λ x. clash y x ≡ false) (λ x was. other_step two.name one.name y x is was h) (step_shapes g one) (all_of_step one)) (step_shapes g two) (all_of_step two)

  later_steps : (one : Step) (steps : List Step) → AllByRecursion (λ text. is_text text one.name ≡ false) (names_of_steps steps) → Clear clash (step_shapes g one) (flat_map (step_shapes g) steps)
  later_steps one [] all = tt
  later_steps one (two ∷ steps) all = each_of_both (λ y. AllByRecursion (λ x. clash y x ≡ false) (step_shapes g one)) (step_shapes g two) (flat_map (step_shapes g) steps) (two_steps one two all.0) (later_steps one steps all.1)

  all_steps : (steps : List Step) → Apart is_text (names_of_steps steps) → Apart clash (flat_map (step_shapes g) steps)
  all_steps [] apart = tt
  all_steps (step ∷ steps) apart = apart_both clash (step_shapes g step) (flat_map (step_shapes g) steps) (step_apart step) (all_steps steps apart.1) (later_steps step steps apart.0)

  behind_steps : (steps : List Step) → Clear clash (flat_map (step_shapes g) steps) (environment_shapes g)
  behind_steps steps =
      each_weaker IsOfEnvironment (λ y. AllByRecursion (λ x. clash y x ≡ false) (flat_map (step_shapes g) steps))
      (λ y is. each_flat (λ x. clash y x ≡ false) (step_shapes g) steps (each (λ step. AllByRecursion (λ x. clash y x ≡ false) (step_shapes g step))
      (λ step. each_weaker (IsOfStep step.name) (λ x. clash y x ≡ false) (λ x was. not_of_step step.name y x is was) (step_shapes g step) (all_of_step step)) steps)) (environment_shapes g) all_of_environment

  environment_apart : Apart clash (environment_shapes g)
  environment_apart = search (groups, items_apart, tags_apart) depth 9

  pub shapes_apart : Apart is_text (names_of_steps g.steps) → Apart clash (shapes g)
  shapes_apart steps_apart = apart_both clash (flat_map (step_shapes g) g.steps) (environment_shapes g) (all_steps g.steps steps_apart) environment_apart (behind_steps g.steps)
