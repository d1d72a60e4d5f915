-- What a tree without a fault lets its steps name, as its tables say; and the faults of its bodies, one step after another.
use Rattle.std.proofs.Common.{◌≡◌, ◌<◌, ℕ, suc, Bool, false, List, [], ◌∷◌, length, map, get_or, Option, Some, None, refl, sym, ap, subst, ◌∙◌, slice_get, arith, ◌+◌, zero, ◌++◌, take, drop}
use Rattle.std.proofs.lemmas.List.{length-map, take-append-drop, map-append, get_or_default, take_all, ext_get_or, get_or-map}
use Rattle.std.specs.Prelude.{Vec, option_map}
use Rattle.std.specs.List.{IsDistinct, list_any}
use Rattle.std.specs.Str.{bytes_eq}
use Rattle.std.specs.declared.alloc.Global.{Global}
use Rattle.std.proofs.lemmas.Option.{slice_get-map, get_or_from_slice_get, slice_get-get_or}
use Rattle.terms.specs.declared.name.TagCollection.{TagCollection}
use Rattle.steptree.specs.declared.step.Step.{Step as NamedStep}
use Rattle.steptree.specs.CheckFaults.{faults_of}
use Rattle.steptree.specs.Limits.{AreFew, IsWithinLimits}
use Rattle.steptree.specs.Names.{Text, place_of, names_in}
use Rattle.steptree.specs.Nameable.{Nameable}
use Rattle.syntax.specs.declared.tree.Relation.{Relation}
use Rattle.syntax.specs.declared.tree.Tree.{Tree}
use Rattle.graph.specs.declared.fault.PlacedFault.{PlacedFault}
use Rattle.graph.specs.declared.resolved.Resolved.{Resolved}
use Rattle.graph.specs.CheckedSteps.{IsPrescribedBy, IsBodyFault, IsCheckedStep, AreCheckedSteps}
use Rattle.graph.specs.Faults.{arity_faults, body_fault, tree_faults, At}
use Rattle.graph.specs.Placed.{IsFirst}
use Rattle.graph.specs.Marks.{mark_at, mark_between, AreMarks, AreRows, IsPrescriber, prescriber_at}
use Rattle.graph.specs.Resolved.{IsResolved}
use Rattle.graph.specs.Small.{IsSmall, IsSmallStep}
use Rattle.graph.specs.Tree.{text_of, tags_of, step_names, is_read, is_item_put, is_tag_put, each_of, prescriber_of, sheet_in}
use Rattle.graph.proofs.Faultless.{items_apart, tags_apart, step_names_apart, no_arity, in_front}
use Rattle.graph.proofs.Lists.{each_at, each_found, opened, in_common, are_both, there_at, taken}
use Rattle.graph.proofs.Marks.{stood}
use Rattle.graph.proofs.Texts.{own_place}
use Rattle.steptree.specs.declared.checker.CheckFault.{CheckFault}
use Rattle.graph.specs.declared.graph.Prescribed.{Prescribed}
use Rattle.graph.specs.Numbered.{names_numbered}
use Rattle.graph.specs.Reads.{body_faults}

-- ---- marks

-- the marks of a row, name by name
pub row_told : (is : Text → Relation → Bool) (names : List Text) (relations : List Relation) (row : List Bool) → IsDistinct bytes_eq names → AreMarks is names relations row → row ≡ each_of is relations names
row_told is names relations row distinct are =
    ext_get_or false row (each_of is relations names) (are.long ∙ sym (length-map names (λ name. list_any (is name) relations)))
    (λ place within. let there : place < length names = omega (arith, within, are.long) in
    sym (get_or-map (λ name. list_any (is name) relations) names place [] false there
    ∙ are.each (get_or names place []) ∙ ap (mark_at row) (own_place names place (get_or names place []) distinct (slice_get-get_or names place [] there))))

marks_of : (is : Text → Text → Relation → Bool) (steps names : List Text) (relations : List Relation) (rows : List (List Bool)) (number : ℕ) (step : Text) → number < length steps
    → place_of steps step ≡ Some number → AreRows is steps names relations rows → AreMarks (is step) names relations (get_or rows number [])
marks_of is steps names relations rows number step within place are = record {
  long = each_at (λ row. length row ≡ length names) rows number [] (omega (arith, are.long)) are.wide;
  each = λ name. are.each step name ∙ ap (λ (p : Option ℕ). mark_between rows p (place_of names name)) place;
}

pub rows_told : (is : Text → Text → Relation → Bool) (steps names : List Text) (relations : List Relation) (rows : List (Vec Bool Global)) (number : ℕ) (step : Text) (row : Vec Bool Global)
    → number < length steps → place_of steps step ≡ Some number → IsDistinct bytes_eq names → AreRows is steps names relations (map (λ row. row.items) rows) → row ≡ get_or rows number row
    → row.items ≡ each_of (is step) relations names
rows_told is steps names relations rows number step row within place distinct are there =
    let marks = marks_of is steps names relations (map (λ row. row.items) rows) number step within place are in
    stood (λ row. row.items) rows number row [] (omega (arith, are.long, length-map rows (λ row. row.items))) there ∙ row_told (is step) names relations (get_or (map (λ row. row.items) rows) number []) distinct marks

-- ---- a step of a tree without a fault

-- what holds of the step that was looked up holds of the step with that number
pub of_number : (P : NamedStep → Type 0) (steps : List NamedStep) (number : ℕ) (this : NamedStep) → this ≡ get_or steps number this → P this → (step : NamedStep) → slice_get steps number ≡ Some step → P step
of_number P steps number this is it step there = subst P (is ∙ get_or_from_slice_get steps number step this there) it

module _ (tree : Tree) (resolved : Resolved) (small : IsSmall tree) (none : tree_faults tree ≡ []) (are : IsResolved tree resolved) (number : ℕ) (step : NamedStep)
    (within : number < length tree.steps.items) (is : step ≡ get_or tree.steps.items number step) where
  abbrev tags : List Text
  tags = names_in (tags_of tree.declarations.items)

  there : slice_get tree.steps.items number ≡ Some step
  there = there_at tree.steps.items number step within is

  pub its_place : place_of (step_names tree.steps.items) (text_of step.name) ≡ Some number
  its_place =
      own_place (step_names tree.steps.items) number (text_of step.name) (step_names_apart tree none)
      (slice_get-map (λ (s : NamedStep). text_of s.name) tree.steps.items number ∙ ap (option_map (λ (s : NamedStep). text_of s.name)) there)

  is_within : number < length (step_names tree.steps.items)
  is_within = omega (arith, within, length-map tree.steps.items (λ (s : NamedStep). text_of s.name))

  -- the rows of its marks
  pub its_reads : (row : Vec Bool Global) → row ≡ get_or resolved.relations.reads.items number row → row.items ≡ (sheet_in tree step).reads
  its_reads row = rows_told (λ step item. is_read item step) _ _ tree.relations.items resolved.relations.reads.items number (text_of step.name) row is_within its_place (items_apart tree none) are.relations.reads

  pub its_item_puts : (row : Vec Bool Global) → row ≡ get_or resolved.relations.item_puts.items number row → row.items ≡ (sheet_in tree step).item_puts
  its_item_puts row = rows_told is_item_put _ _ tree.relations.items resolved.relations.item_puts.items number (text_of step.name) row is_within its_place (items_apart tree none) are.relations.item_puts

  pub its_tag_puts : (row : Vec Bool Global) → row ≡ get_or resolved.relations.tag_puts.items number row → row.items ≡ (sheet_in tree step).tag_puts
  its_tag_puts row = rows_told is_tag_put _ _ tree.relations.items resolved.relations.tag_puts.items number (text_of step.name) row is_within its_place (tags_apart tree none) are.relations.tag_puts

  -- the sheet that is made of the tables
  pub is_sheet : (sheet : Nameable) (a b c : Vec Bool Global) → sheet.items ≡ resolved.items.declared.items → sheet.tags ≡ resolved.tags.declared.items → sheet.reads ≡ a.items
      → sheet.item_puts ≡ b.items → sheet.tag_puts ≡ c.items
      → a ≡ get_or resolved.relations.reads.items number a → b ≡ get_or resolved.relations.item_puts.items number b → c ≡ get_or resolved.relations.tag_puts.items number c → sheet ≡ sheet_in tree step
  is_sheet sheet a b c one two reads item_puts tag_puts at also last = λ i. record {
    items = (one ∙ are.items.declared) i;
    tags = (two ∙ are.tags.declared) i;
    reads = (reads ∙ its_reads a at) i;
    item_puts = (item_puts ∙ its_item_puts b also) i;
    tag_puts = (tag_puts ∙ its_tag_puts c last) i;
  }

  pub within_limits : (sheet : Nameable) → sheet.items ≡ resolved.items.declared.items → sheet.tags ≡ resolved.tags.declared.items → IsWithinLimits sheet step
  within_limits sheet same_items same_tags =
      let it = each_found IsSmallStep tree.steps.items number step there small.steps in
      record {
        items = subst AreFew (sym (same_items ∙ are.items.declared)) small.items;
        tags = subst AreFew (sym (same_tags ∙ are.tags.declared)) small.tags;
        names = it.names;
        parameters = it.parameters;
      }

  -- the tag that prescribes it, and its number
  tag_told : (tag : Option Text) (at : Option TagCollection) → prescriber_of tree.relations.items (text_of step.name) ≡ tag → arity_faults (tags_of tree.declarations.items) tag step ≡ []
      → IsPrescriber tags tag at → (it : TagCollection) × (at ≡ Some it) × IsPrescribedBy tree step it.0
  tag_told None at first right by = absurd (cc)
  tag_told (Some tag) None first right by = absurd by
  tag_told (Some tag) (Some it) first right by = (it, refl, record { tag = tag; first = first; place = by })

  pub prescribed_by : (at : Option TagCollection) → at ≡ get_or resolved.relations.prescribers.items number at → (it : TagCollection) × (at ≡ Some it) × IsPrescribedBy tree step it.0
  prescribed_by at here =
      let inside : number < length resolved.relations.prescribers.items = omega (arith, is_within, are.relations.prescribers.long) in
      tag_told _ at refl (no_arity tree none number step there)
      (subst (IsPrescriber tags _) (ap (prescriber_at resolved.relations.prescribers.items) its_place ∙ get_or_default _ number None at inside ∙ sym here) (are.relations.prescribers.each (text_of step.name)))

-- ---- checked steps

module _ (tree : Tree) where
  behind_checked : (before : List NamedStep) (them : List (Text × Prescribed)) (behind : List NamedStep) → AreCheckedSteps tree before them → body_faults tree (before ++ behind) ≡ body_faults tree behind
  behind_checked [] [] behind all = refl
  behind_checked (step ∷ before) (entry ∷ them) behind all = ap (λ l. l ++ body_faults tree (before ++ behind)) all.0.1.no_fault ∙ behind_checked before them behind all.1
  behind_checked _ _ _ all = absurd (assumption)

  module _ (number : ℕ) (step : NamedStep) (within : number < length tree.steps.items) (is : step ≡ get_or tree.steps.items number step) (them : List (Text × Prescribed))
      (so : AreCheckedSteps tree (take number tree.steps.items) them) where
    -- the first fault of this step's body is that of the tree
    pub body_first : (fault : PlacedFault) → tree_faults tree ≡ [] → ((s : NamedStep) → slice_get tree.steps.items number ≡ Some s → IsBodyFault tree s fault)
        → IsFirst (tree_faults tree ++ map body_fault (body_faults tree tree.steps.items)) fault
    body_first fault none first =
        let here : List CheckFault = faults_of (sheet_in tree step) step in
        let more = drop (number + 1) tree.steps.items in
        let bodies : body_faults tree tree.steps.items ≡ here ++ body_faults tree more =
        sym (ap (λ (l : List NamedStep). body_faults tree (take number tree.steps.items ++ l)) (sym (opened tree.steps.items number step within is)) ∙ ap (body_faults tree) (take-append-drop number tree.steps.items))
        ∙ behind_checked (take number tree.steps.items) them (step ∷ more) so in
        subst (λ (l : List At). IsFirst l fault) (sym ((λ i. none i ++ map body_fault (bodies i)) ∙ map-append body_fault here (body_faults tree more)))
        (in_front (map body_fault here) _ fault (first step (there_at tree.steps.items number step within is)))

    pub next_checked : (it : Prescribed) (new : List (Text × Prescribed)) → new ≡ them ++ (text_of step.name, it) ∷ [] → ((s : NamedStep) → slice_get tree.steps.items number ≡ Some s → IsCheckedStep tree s it)
        → AreCheckedSteps tree (take (number + 1) tree.steps.items) new
    next_checked it new more checked =
        rw (more, taken tree.steps.items number step within is)
        (are_both _ (take number tree.steps.items) (step ∷ []) them ((text_of step.name, it) ∷ []) so ((refl, checked step (there_at tree.steps.items number step within is)), tt))

    -- its name is new
    pub name_is_new : place_of (step_names tree.steps.items) (text_of step.name) ≡ Some number → place_of (names_numbered them) (text_of step.name) ≡ None
    name_is_new place =
        ap (λ (l : List Text). place_of l (text_of step.name)) (sym (in_common _ (λ step. text_of step.name) (λ entry. entry.0) (λ step entry is. sym is.0) (take number tree.steps.items) them so))
        ∙ not_before tree.steps.items number place
      where
        not_before : (steps : List NamedStep) (n : ℕ) → place_of (step_names steps) (text_of step.name) ≡ Some n → place_of (step_names (take n steps)) (text_of step.name) ≡ None
        not_before [] n there = absurd (cc)
        not_before (first ∷ steps) zero there = refl
        not_before (first ∷ steps) (suc n) there = grind (arith, not_before steps n)

  pub all_checked : (number : ℕ) (them : List (Text × Prescribed)) → number ≡ length tree.steps.items → AreCheckedSteps tree (take number tree.steps.items) them → AreCheckedSteps tree tree.steps.items them
  all_checked number them all so = subst (λ (l : List NamedStep). AreCheckedSteps tree l them) (take_all number tree.steps.items (omega (arith, all))) so
