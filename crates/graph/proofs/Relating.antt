-- Adding relations, one after another; where nothing is marked there are none.
use Rattle.std.proofs.Common.{◌≡◌, ℕ, Bool, not, List, [], ◌∷◌, ◌++◌, Some, None, Option, refl, sym, ap, subst, ◌∙◌, is_some, arith, ◌&&◌, false, ◌<◌, zero, suc, length, get_or, take, drop, ◌+◌}
use Rattle.std.specs.Prelude.{Result, Ok, Err, OnOk, is_none, Vec, replicate}
use Rattle.std.specs.List.{list_any, AllByRecursion}
use Rattle.steptree.specs.Names.{Text, place_of, is_text}
use Rattle.steptree.specs.declared.step.Name.{Name}
use Rattle.syntax.specs.declared.tree.Relation.{Relation}
use Rattle.graph.specs.declared.fault.GraphError.{GraphError}
use Rattle.graph.specs.declared.fault.PlacedFault.{PlacedFault}
use Rattle.graph.specs.declared.relations.Relations.{Relations}
use Rattle.graph.specs.Faults.{At, fault_if, has, same_relation, relation_fault, or_else, again, unknown, missing, prescribed_before, relation_faults}
use Rattle.graph.specs.Placed.{IsFirst, Reports}
use Rattle.graph.specs.Marks.{AreRows, mark_between, mark_at, with_mark, with_mark_between, AreMarks, ArePrescribers, prescriber_at, with_prescriber, bits}
use Rattle.graph.specs.Relations.{AreRelations, Relates, read_faults, put_faults, environment_faults, prescription_faults, AreNumbers, IsUnmarked}
use Rattle.graph.specs.Tree.{text_of, prescriber_of, is_read, is_item_put, is_tag_put, is_environment_item_put, is_environment_tag_put, is_environment_get}
use Rattle.graph.proofs.Lists.{any_agree}
use Rattle.std.specs.declared.alloc.Global.{Global}
use Rattle.syntax.specs.declared.tree.Relation.TheVariants as related
use Rattle.terms.specs.declared.name.TagCollection.{TagCollection}
use Rattle.graph.specs.declared.fault.GraphError.TheVariants.{Redeclared, UnknownName, StepMissing, TwoPrescribers}
use Rattle.graph.proofs.Faultless.{first_empty, second_empty, first_none, not_so, in_front, empty_in_front}
use Rattle.graph.proofs.Marks.{marks_stay, one_marked, rows_stay, two_marked, prescribers_stay, one_prescribed, both_there}
use Rattle.std.proofs.lemmas.List.{take_more, length-replicate, length-map, drop_all, drop_more, take_all}
use Rattle.graph.specs.declared.relations.Numbers.{Numbers}

-- ---- faults

not_there : (place : Option ℕ) → not (is_some place) ≡ is_none place
not_there place = grind arith

-- a lookup that found nothing
pub in_vain : (place : Option ℕ) (names : List Text) (name : Name) (error : GraphError) → place ≡ place_of names (text_of name)
    → fault_if (is_none place) error name.place ≡ fault_if (not (has names name)) error name.place
in_vain place names name error is = ap (λ (b : Bool). fault_if b error name.place) (sym (not_there place) ∙ ap (λ (p : Option ℕ). not (is_some p)) is)

pub is_there : (place : Option ℕ) (error : GraphError) (position : ℕ) → fault_if (not (is_some place)) error position ≡ [] → (k : ℕ) × (place ≡ Some k)
is_there None error position none = absurd (cc)
is_there (Some k) error position none = (k, refl)

-- equal lists of faults are reported alike
module _ (items tags steps : List Text) (before : List Relation) (relation : Relation) (new : Relations) where
  pub relates : {M : Type 0} (faults : List At) (result : Result (Unit {0}) PlacedFault) → faults ≡ relation_fault items tags steps before relation → Reports faults result → OnOk result M
      → (M → relation_fault items tags steps before relation ≡ [] → AreRelations items tags steps (before ++ relation ∷ []) new) → Relates items tags steps before relation new result
  relates faults (Ok value) same none marked related = (sym same ∙ none, related marked (sym same ∙ none))
  relates faults (Err fault) same first marked related = subst (λ (l : List At). IsFirst l fault) same first

module _ (items tags steps : List Text) (before : List Relation) (old : Relations) (are : AreRelations items tags steps before old) where
  -- ---- a relation of another kind

  pub reads_stay : (relation : Relation) → ((step name : Text) → is_read name step relation ≡ false) → AreRows (λ step item. is_read item step) steps items (before ++ relation ∷ []) (bits old.reads)
  reads_stay relation other = rows_stay (λ step item. is_read item step) steps items before relation (bits old.reads) other are.reads

  pub item_puts_stay : (relation : Relation) → ((step name : Text) → is_item_put step name relation ≡ false) → AreRows is_item_put steps items (before ++ relation ∷ []) (bits old.item_puts)
  item_puts_stay relation other = rows_stay is_item_put steps items before relation (bits old.item_puts) other are.item_puts

  pub tag_puts_stay : (relation : Relation) → ((step name : Text) → is_tag_put step name relation ≡ false) → AreRows is_tag_put steps tags (before ++ relation ∷ []) (bits old.tag_puts)
  tag_puts_stay relation other = rows_stay is_tag_put steps tags before relation (bits old.tag_puts) other are.tag_puts

  pub environment_items_stay : (relation : Relation) → ((name : Text) → is_environment_item_put name relation ≡ false)
      → AreMarks is_environment_item_put items (before ++ relation ∷ []) old.environment_item_puts.items
  environment_items_stay relation other = marks_stay is_environment_item_put items before relation old.environment_item_puts.items other are.environment_item_puts

  pub environment_tags_stay : (relation : Relation) → ((name : Text) → is_environment_tag_put name relation ≡ false) → AreMarks is_environment_tag_put tags (before ++ relation ∷ []) old.environment_tag_puts.items
  environment_tags_stay relation other = marks_stay is_environment_tag_put tags before relation old.environment_tag_puts.items other are.environment_tag_puts

  pub environment_gets_stay : (relation : Relation) → ((name : Text) → is_environment_get name relation ≡ false) → AreMarks is_environment_get items (before ++ relation ∷ []) old.environment_gets.items
  environment_gets_stay relation other = marks_stay is_environment_get items before relation old.environment_gets.items other are.environment_gets

  -- what a relation leaves as it was
  pub ruleset kept = (prescribers_stay, reads_stay, item_puts_stay, tag_puts_stay, environment_items_stay, environment_tags_stay, environment_gets_stay)

  -- ---- a prescription

  pub prescription_relates : (a b : Name) (tp sp : Option ℕ) (list : Vec (Option TagCollection) Global) (result : Result (Unit {0}) PlacedFault)
      → tp ≡ place_of tags (text_of a) → sp ≡ place_of steps (text_of b)
      → Reports (prescription_faults old.prescribers.items tp a sp b) result
      → OnOk result (list.items ≡ with_prescriber old.prescribers.items sp tp)
      → Relates items tags steps before (related.Prescribes a b) (record { prescribers = list; reads = old.reads; item_puts = old.item_puts; tag_puts = old.tag_puts; environment_item_puts = old.environment_item_puts; environment_tag_puts = old.environment_tag_puts; environment_gets = old.environment_gets }) result
  prescription_relates a b tp sp list result tag_is step_is reports marked =
      relates items tags steps before (related.Prescribes a b) _ _ result faults reports marked (λ marks none. let own = its_own marks none in search (own, kept))
    where
      once : is_some (prescriber_at old.prescribers.items sp) ≡ is_some (prescriber_of before (text_of b))
      once = ap (λ (p : Option ℕ). is_some (prescriber_at old.prescribers.items p)) step_is ∙ both_there tags _ _ (are.prescribers.each (text_of b))

      faults : prescription_faults old.prescribers.items tp a sp b ≡ relation_fault items tags steps before (related.Prescribes a b)
      faults = λ i. in_vain tp tags a UnknownName tag_is i ++ or_else (in_vain sp steps b StepMissing step_is i) (fault_if (once i) TwoPrescribers b.place)

      its_own : list.items ≡ with_prescriber old.prescribers.items sp tp → relation_fault items tags steps before (related.Prescribes a b) ≡ []
          → ArePrescribers tags steps (before ++ related.Prescribes a b ∷ []) list.items
      its_own marks none =
          let tag = is_there (place_of tags (text_of a)) UnknownName a.place (first_empty (unknown tags a) _ none) in
          let alone = first_none (missing steps b) (prescribed_before before b) (second_empty (unknown tags a) _ none) in
          let step = is_there (place_of steps (text_of b)) StepMissing b.place alone.0 in
          let free = ap (λ (p : Option ℕ). is_some (prescriber_at old.prescribers.items p)) (sym (step_is ∙ step.1)) ∙ once ∙ not_so _ TwoPrescribers b.place alone.1 in
          subst (ArePrescribers tags steps (before ++ related.Prescribes a b ∷ [])) (sym (marks ∙ (λ i. with_prescriber old.prescribers.items ((step_is ∙ step.1) i) ((tag_is ∙ tag.1) i))))
          (one_prescribed tags steps before old.prescribers.items a b tag.0 step.0 tag.1 step.1 free are.prescribers)

module _ (items tags steps : List Text) (before : List Relation) where
  -- ---- a relation between a step and another name

  module _ (is : Text → Text → Relation → Bool) (names : List Text) (relation : Relation) (rows new : List (List Bool)) (step other : Name) (sp op : Option ℕ)
      (so_far : AreRows is steps names before rows) (step_is : sp ≡ place_of steps (text_of step)) (other_is : op ≡ place_of names (text_of other))
      (same : (one : Relation) → same_relation relation one ≡ is (text_of step) (text_of other) one) (kind : (one two : Text) → is one two relation ≡ is_text (text_of step) one && is_text (text_of other) two) where
    -- it is there before exactly if the numbers of its names are marked
    told_before : list_any (same_relation relation) before ≡ mark_between rows sp op
    told_before =
        any_agree (same_relation relation) (is (text_of step) (text_of other)) before same ∙ so_far.each (text_of step) (text_of other)
        ∙ (λ i. mark_between rows (sym step_is i) (sym other_is i))

    -- the names are marked if both are there
    row_marked : missing steps step ≡ [] → unknown names other ≡ [] → new ≡ with_mark_between rows sp op → AreRows is steps names (before ++ relation ∷ []) new
    row_marked none nothing marked =
        let row = is_there (place_of steps (text_of step)) StepMissing step.place none in
        let place = is_there (place_of names (text_of other)) UnknownName other.place nothing in
        subst (AreRows is steps names (before ++ relation ∷ [])) (sym (marked ∙ (λ i. with_mark_between rows ((step_is ∙ row.1) i) ((other_is ∙ place.1) i))))
        (two_marked is steps names before relation rows (text_of step) (text_of other) row.0 place.0 row.1 place.1 kind so_far)

    -- a put looks its step up first
    pub put_relates : (p : ℕ) (them : Relations) (result : Result (Unit {0}) PlacedFault) → relation_fault items tags steps before relation ≡ again before relation p ++ missing steps step ++ unknown names other
        → Reports (put_faults rows p sp step op other) result → OnOk result (new ≡ with_mark_between rows sp op)
        → (AreRows is steps names (before ++ relation ∷ []) new → AreRelations items tags steps (before ++ relation ∷ []) them) → Relates items tags steps before relation them result
    put_relates p them result all reports marked rest =
        relates items tags steps before relation them _ result
        ((λ i. fault_if (sym told_before i) Redeclared p ++ in_vain sp steps step StepMissing step_is i ++ in_vain op names other UnknownName other_is i) ∙ sym all) reports marked
        (λ marks none. let nothing = sym all ∙ none in rest (row_marked (search (first_empty, second_empty, nothing)) (search (first_empty, second_empty, nothing)) marks))

    -- and a read looks it up last
    pub read_relates : (p : ℕ) (them : Relations) (result : Result (Unit {0}) PlacedFault) → relation_fault items tags steps before relation ≡ again before relation p ++ unknown names other ++ missing steps step
        → Reports (read_faults rows p op other sp step) result → OnOk result (new ≡ with_mark_between rows sp op)
        → (AreRows is steps names (before ++ relation ∷ []) new → AreRelations items tags steps (before ++ relation ∷ []) them) → Relates items tags steps before relation them result
    read_relates p them result all reports marked rest =
        relates items tags steps before relation them _ result
        ((λ i. fault_if (sym told_before i) Redeclared p ++ in_vain op names other UnknownName other_is i ++ in_vain sp steps step StepMissing step_is i) ∙ sym all) reports marked
        (λ marks none. let nothing = sym all ∙ none in rest (row_marked (search (first_empty, second_empty, nothing)) (search (first_empty, second_empty, nothing)) marks))

  -- ---- a relation of the environment

  pub environment_relates : (is : Text → Relation → Bool) (names : List Text) (relation : Relation) (p : ℕ) (name : Name) (op : Option ℕ) (row new : List Bool) (them : Relations) (result : Result (Unit {0}) PlacedFault)
      → AreMarks is names before row → op ≡ place_of names (text_of name) → relation_fault items tags steps before relation ≡ again before relation p ++ unknown names name
      → ((one : Relation) → same_relation relation one ≡ is (text_of name) one) → ((other : Text) → is other relation ≡ is_text (text_of name) other)
      → Reports (environment_faults row p op name) result → OnOk result (new ≡ with_mark row op)
      → (AreMarks is names (before ++ relation ∷ []) new → AreRelations items tags steps (before ++ relation ∷ []) them) → Relates items tags steps before relation them result
  environment_relates is names relation p name op row new them result so_far name_is all same kind reports marked rest =
      relates items tags steps before relation them _ result
      ((λ i. fault_if (sym told_before i) Redeclared p ++ in_vain op names name UnknownName name_is i) ∙ sym all) reports marked (λ marks none. rest (name_marked (second_empty _ _ (sym all ∙ none)) marks))
    where
      told_before : list_any (same_relation relation) before ≡ mark_at row op
      told_before = any_agree (same_relation relation) (is (text_of name)) before same ∙ so_far.each (text_of name) ∙ ap (mark_at row) (sym name_is)

      name_marked : unknown names name ≡ [] → new ≡ with_mark row op → AreMarks is names (before ++ relation ∷ []) new
      name_marked none marked =
          let place = is_there (place_of names (text_of name)) UnknownName name.place none in
          subst (AreMarks is names (before ++ relation ∷ [])) (sym (marked ∙ ap (with_mark row) (name_is ∙ place.1))) (one_marked is names before relation row (text_of name) place.0 place.1 kind so_far)

same_there : {X : Type 0} (n place : ℕ) (x : X) → get_or (replicate n x) place x ≡ x
same_there zero place x = refl
same_there (suc n) zero x = refl
same_there (suc n) (suc place) x = same_there n place x

no_mark : (n : ℕ) (place : Option ℕ) → false ≡ mark_at (replicate n false) place
no_mark n None = refl
no_mark n (Some place) = sym (same_there n place false)

no_mark_between : (n width : ℕ) (row place : Option ℕ) → false ≡ mark_between (replicate n (replicate width false)) row place
no_mark_between n width None place = refl
no_mark_between zero width (Some row) place = grind arith
no_mark_between (suc n) width (Some zero) place = no_mark width place
no_mark_between (suc n) width (Some (suc row)) place = no_mark_between n width (Some row) place

wide : (n width : ℕ) → AllByRecursion (λ row. length row ≡ width) (replicate n (replicate width false))
wide zero width = tt
wide (suc n) width = (length-replicate width false, wide n width)

none_at : (n : ℕ) (place : Option ℕ) → prescriber_at (replicate n None) place ≡ None
none_at n None = refl
none_at n (Some place) = same_there n place None

marks : (is : Text → Relation → Bool) (names : List Text) (row : List Bool) → row ≡ replicate (length names) false → AreMarks is names [] row
marks is names row e = subst (AreMarks is names []) (sym e) (record { long = length-replicate (length names) false; each = λ name. no_mark (length names) (place_of names name) })

rows : (is : Text → Text → Relation → Bool) (steps names : List Text) (them : List (List Bool)) → them ≡ replicate (length steps) (replicate (length names) false) → AreRows is steps names [] them
rows is steps names them e = subst (AreRows is steps names []) (sym e) (record {
  long = length-replicate (length steps) (replicate (length names) false);
  wide = wide (length steps) (length names);
  each = λ step name. no_mark_between (length steps) (length names) (place_of steps step) (place_of names name);
})

pub unmarked : (items tags steps : List Text) (them : Relations) → IsUnmarked (length items) (length tags) (length steps) them → AreRelations items tags steps [] them
unmarked items tags steps them are = record {
  prescribers = subst (ArePrescribers tags steps []) (sym are.prescribers) (record { long = length-replicate (length steps) None; each = λ step. none_at (length steps) (place_of steps step) });
  reads = rows (λ step item. is_read item step) steps items (bits them.reads) are.reads;
  item_puts = rows is_item_put steps items (bits them.item_puts) are.item_puts;
  tag_puts = rows is_tag_put steps tags (bits them.tag_puts) are.tag_puts;
  environment_item_puts = marks is_environment_item_put items them.environment_item_puts.items are.environment_item_puts;
  environment_tag_puts = marks is_environment_tag_put tags them.environment_tag_puts.items are.environment_tag_puts;
  environment_gets = marks is_environment_get items them.environment_gets.items are.environment_gets;
}

-- ---- one after another

module _ (items tags steps : List Text) (all : List Relation) where
  pub record RelatedSoFar (index : ℕ) (them : Relations) : Type 0 where
    pub are : AreRelations items tags steps (take index all) them
    pub left : relation_faults items tags steps [] all ≡ relation_faults items tags steps (take index all) (drop index all)

  module _ (index : ℕ) (old : Relations) (default : Relation) (within : index < length all) (so : RelatedSoFar index old) where
    abbrev this : Relation
    this = get_or all index default

    here : relation_faults items tags steps [] all ≡ relation_fault items tags steps (take index all) this ++ relation_faults items tags steps (take index all ++ this ∷ []) (drop (index + 1) all)
    here = so.left ∙ ap (relation_faults items tags steps (take index all)) (drop_more all index default within)

    pub next_related : (new : Relations) → (relation_fault items tags steps (take index all) this ≡ []) × AreRelations items tags steps (take index all ++ this ∷ []) new → RelatedSoFar (index + 1) new
    next_related new done = record {
      are = rw (take_more all index default within) done.1;
      left = here ∙ empty_in_front (relation_fault items tags steps (take index all) this) _ done.0 ∙ ap (λ (l : List Relation). relation_faults items tags steps l (drop (index + 1) all)) (sym (take_more all index default within));
    }

    pub first_related : (fault : PlacedFault) → IsFirst (relation_fault items tags steps (take index all) this) fault → IsFirst (relation_faults items tags steps [] all) fault
    first_related fault first = subst (λ (l : List At). IsFirst l fault) (sym here) (in_front (relation_fault items tags steps (take index all) this) _ fault first)

  pub all_related : (index : ℕ) (them : Relations) → index ≡ length all → RelatedSoFar index them → (relation_faults items tags steps [] all ≡ []) × AreRelations items tags steps all them
  all_related index them end so =
      (so.left ∙ ap (relation_faults items tags steps (take index all)) (drop_all index all (omega (arith, end))), subst (λ (l : List Relation). AreRelations items tags steps l them) (take_all index all (omega (arith, end))) so.are)

-- where nothing is marked, no relation has been added yet
pub begun : (items tags steps : List Text) (all : List Relation) (numbers : Numbers) (i t s : ℕ) (them : Relations) → AreNumbers items tags steps numbers → i ≡ length numbers.items.now
    → t ≡ length numbers.tags.now → length steps ≡ s → IsUnmarked i t s them → RelatedSoFar items tags steps all 0 them
begun items tags steps all numbers i t s them are of_items of_tags of_steps none =
    let is : i ≡ length items = of_items ∙ sym (length-map numbers.items.now (λ entry. entry.0)) ∙ ap length are.items_are in
    let ts : t ≡ length tags = of_tags ∙ sym (length-map numbers.tags.now (λ entry. entry.0)) ∙ ap length are.tags_are in
    record { are = unmarked items tags steps them (rw (is, ts, ← of_steps) at none); left = refl }
