-- Marks, the relations that they stand for, and the prescribers of the steps.
use Rattle.std.proofs.Common.{◌≡◌, ◌<◌, ℕ, zero, suc, Bool, true, false, ◌&&◌, ◌||◌, List, [], ◌∷◌, ◌++◌, length, map, get_or, Some, None, Option, refl, sym, ap, ◌∙◌, arith, slice_get, if◌then◌else◌, subst, is_some}
use Rattle.std.proofs.lemmas.Bool.Decides.{nat_tests}
use Rattle.std.specs.Prelude.{◌==◌, Vec}
use Rattle.std.specs.List.{list_any, AllByRecursion}
use Rattle.std.proofs.lemmas.Option.{slice_get_within}
use Rattle.std.proofs.Math.ListN.{set}
use Rattle.steptree.specs.Names.{Text, is_text, place_of}
use Rattle.syntax.specs.declared.tree.Relation.{Relation}
use Rattle.std.specs.declared.alloc.Global.{Global}
use Rattle.std.proofs.Math.Bool.{or-false}
use Rattle.std.proofs.lemmas.List.{map-set, length-set, get_or-map, get_or-set_other}
use Rattle.std.proofs.lemmas.List.Folds.{list_any-append}
use Rattle.graph.specs.Marks.{mark_at, mark_between, with_mark, with_mark_between, AreMarks, AreRows, ArePrescribers, IsPrescriber, prescriber_at}
use Rattle.graph.proofs.Lists.{each_at}
use Rattle.graph.proofs.Texts.{one_text, itself}
use Rattle.std.proofs.lemmas.Bool.{eqb-true, eq-eqb, true≢false}
use Rattle.std.proofs.lemmas.Grind.{get_or-set_at, common_steps}
use Rattle.steptree.specs.declared.step.Name.{Name}
use Rattle.terms.specs.declared.name.TagCollection.{TagCollection}
use Rattle.syntax.specs.declared.tree.Relation.TheVariants as related
use Rattle.graph.specs.Tree.{text_of, prescriber_of}

-- ---- places

-- this is the place
abbrev pub is_place : Option ℕ → ℕ → Bool
is_place None place = false
is_place (Some other) place = other == place

-- the name at its place
pub at_place : (names : List Text) (name : Text) (place : ℕ) → place_of names name ≡ Some place → slice_get names place ≡ Some name
at_place [] name place there = absurd (cc)
at_place (first ∷ names) name zero there = grind (arith, one_text first name)
at_place (first ∷ names) name (suc place) there = at_place names name place (grind arith)

-- a name equals another exactly if both have the same place
pub one_place : (names : List Text) (name other : Text) (place : ℕ) → place_of names name ≡ Some place → is_text name other ≡ is_place (place_of names other) place
one_place [] name other place there = absurd (cc)
one_place (first ∷ names) name other zero there = grind (arith, nat_tests, one_text first name)
one_place (first ∷ names) name other (suc place) there = grind (arith, nat_tests, one_text first other, one_text name other, itself first, one_place names name other place)

-- ---- marks

marked : (row : List Bool) (place other : ℕ) → place < length row → get_or (set row place true) other false ≡ get_or row other false || (other == place)
marked row place other within = grind (arith, nat_tests, common_steps)

marked_at : (row : List Bool) (place : ℕ) (its : Option ℕ) → place < length row → mark_at (set row place true) its ≡ mark_at row its || is_place its place
marked_at row place None within = refl
marked_at row place (Some k) within = marked row place k within

any_both : (is : Relation → Bool) (before : List Relation) (relation : Relation) → list_any is (before ++ relation ∷ []) ≡ list_any is before || is relation
any_both is before relation = list_any-append is before (relation ∷ []) ∙ ap (λ (b : Bool). list_any is before || b) (or-false (is relation))

module _ (is : Text → Relation → Bool) (names : List Text) (before : List Relation) (relation : Relation) where
  -- a relation of another kind marks nothing
  pub marks_stay : (row : List Bool) → ((name : Text) → is name relation ≡ false) → AreMarks is names before row → AreMarks is names (before ++ relation ∷ []) row
  marks_stay row other are = record {
    long = are.long;
    each = λ name. grind (arith, any_both (is name) before relation, other name, are.each name);
  }

  -- the relation of a name marks it
  pub one_marked : (row : List Bool) (name : Text) (place : ℕ) → place_of names name ≡ Some place → ((other : Text) → is other relation ≡ is_text name other)
      → AreMarks is names before row → AreMarks is names (before ++ relation ∷ []) (set row place true)
  one_marked row name place there kind are = record {
    long = length-set row place true ∙ are.long;
    each = λ other. grind (arith, any_both (is other) before relation, are.each other, kind other, one_place names name other place there, marked_at row place (place_of names other) within);
  }
    where
      within : place < length row
      within = omega (arith, slice_get_within names place name (at_place names name place there), are.long)

same_width : (rows : List (List Bool)) (row : ℕ) (new : List Bool) (width : ℕ) → length new ≡ width → AllByRecursion (λ row. length row ≡ width) rows
    → AllByRecursion (λ row. length row ≡ width) (set rows row new)
same_width [] row new width long wide = tt
same_width (first ∷ rows) zero new width long wide = (long, wide.1)
same_width (first ∷ rows) (suc row) new width long wide = (wide.0, same_width rows row new width long wide.1)

-- a mark in one row marks no other row
marked_between : (rows : List (List Bool)) (row place : ℕ) (other_row other : Option ℕ) → row < length rows → place < length (get_or rows row [])
    → mark_between (set rows row (set (get_or rows row []) place true)) other_row other ≡ mark_between rows other_row other || (is_place other_row row && is_place other place)
marked_between rows row place None other within in_row = refl
marked_between [] row place (Some k) other within in_row = absurd (omega arith)
marked_between (first ∷ rows) zero place (Some zero) other within in_row = grind (arith, nat_tests, marked_at first place other)
marked_between (first ∷ rows) zero place (Some (suc k)) other within in_row = grind (arith, nat_tests)
marked_between (first ∷ rows) (suc row) place (Some zero) other within in_row = grind (arith, nat_tests)
marked_between (first ∷ rows) (suc row) place (Some (suc k)) other within in_row = grind (arith, nat_tests, marked_between rows row place (Some k) other)

module _ (is : Text → Text → Relation → Bool) (steps names : List Text) (before : List Relation) (relation : Relation) where
  -- a relation of another kind marks nothing
  pub rows_stay : (rows : List (List Bool)) → ((step name : Text) → is step name relation ≡ false) → AreRows is steps names before rows → AreRows is steps names (before ++ relation ∷ []) rows
  rows_stay rows other are = record {
    long = are.long;
    wide = are.wide;
    each = λ step name. grind (arith, any_both (is step name) before relation, other step name, are.each step name);
  }

  -- the relation of a step and a name marks the two
  pub two_marked : (rows : List (List Bool)) (step name : Text) (row place : ℕ) → place_of steps step ≡ Some row → place_of names name ≡ Some place
      → ((one two : Text) → is one two relation ≡ is_text step one && is_text name two)
      → AreRows is steps names before rows → AreRows is steps names (before ++ relation ∷ []) (set rows row (set (get_or rows row []) place true))
  two_marked rows step name row place step_there there kind are = record {
    long = length-set rows row _ ∙ are.long;
    wide = same_width rows row _ (length names) (length-set (get_or rows row []) place true ∙ width) are.wide;
    each = λ one two. grind (
      arith,
      any_both (is one two) before relation,
      are.each one two,
      kind one two,
      one_place steps step one row step_there,
      one_place names name two place there,
      marked_between rows row place (place_of steps one) (place_of names two) within in_row,
    );
  }
    where
      within : row < length rows
      within = omega (arith, slice_get_within steps row step (at_place steps step row step_there), are.long)

      width : length (get_or rows row []) ≡ length names
      width = each_at (λ row. length row ≡ length names) rows row [] within are.wide

      in_row : place < length (get_or rows row [])
      in_row = omega (arith, slice_get_within names place name (at_place names name place there), width)

pub stood : {X Y : Type 0} (f : X → Y) (xs : List X) (index : ℕ) (this : X) (default : Y) → index < length xs → this ≡ get_or xs index this → f this ≡ get_or (map f xs) index default
stood f xs index this default within is = ap f is ∙ sym (get_or-map f xs index this default within)

-- a row that is marked in its place
pub marked_row : (rows : List (Vec Bool Global)) (row : ℕ) (old new : Vec Bool Global) (place : Option ℕ) → row < length rows → old ≡ get_or rows row old → new.items ≡ with_mark old.items place
    → map (λ row. row.items) (set rows row new) ≡ with_mark_between (map (λ row. row.items) rows) (Some row) place
marked_row rows row old new place within is marked =
    map-set (λ row. row.items) rows row new
    ∙ ap (set (map (λ row. row.items) rows) row) (marked ∙ ap (λ (r : List Bool). with_mark r place) (stood (λ row. row.items) rows row old [] within is))

pub both_there : (tags : List Text) (tag : Option Text) (number : Option TagCollection) → IsPrescriber tags tag number → is_some number ≡ is_some tag
both_there tags None number is = ap is_some is
both_there tags (Some tag) None is = absurd is
both_there tags (Some tag) (Some number) is = refl

-- the first of the two that is there
abbrev pub either : Option Text → Option Text → Option Text
either None other = other
either (Some tag) other = Some tag

prescriber_of_both : (before more : List Relation) (step : Text) → prescriber_of (before ++ more) step ≡ either (prescriber_of before step) (prescriber_of more step)
prescriber_of_both [] more step = refl
prescriber_of_both (related.Prescribes one two ∷ before) more step = grind (arith, prescriber_of_both before more step)
prescriber_of_both (_ ∷ before) more step = prescriber_of_both before more step

either_none : (tag : Option Text) → either tag None ≡ tag
either_none tag = grind arith

module _ (tags steps : List Text) (before : List Relation) where
  -- a relation of another kind prescribes nothing
  pub prescribers_stay : (relation : Relation) → ((step : Text) → prescriber_of (relation ∷ []) step ≡ None) → (list : List (Option TagCollection)) → ArePrescribers tags steps before list
      → ArePrescribers tags steps (before ++ relation ∷ []) list
  prescribers_stay relation none list are = record {
    long = are.long;
    each = λ step.
        let same : prescriber_of (before ++ relation ∷ []) step ≡ prescriber_of before step =
        prescriber_of_both before (relation ∷ []) step ∙ ap (either (prescriber_of before step)) (none step) ∙ either_none (prescriber_of before step) in
        subst (λ (tag : Option Text). IsPrescriber tags tag (prescriber_at list (place_of steps step))) (sym same) (are.each step);
  }

  -- a prescription of a step that is not prescribed yet
  pub one_prescribed : (list : List (Option TagCollection)) (a b : Name) (tag row : ℕ) → place_of tags (text_of a) ≡ Some tag → place_of steps (text_of b) ≡ Some row
      → is_some (prescriber_at list (Some row)) ≡ false → ArePrescribers tags steps before list
      → ArePrescribers tags steps (before ++ related.Prescribes a b ∷ []) (set list row (Some (record { 0 = tag })))
  one_prescribed list a b tag row tag_there step_there free are = record {
    long = length-set list row _ ∙ are.long;
    each = λ step. subst (λ (it : Option Text). IsPrescriber tags it (prescriber_at (set list row (Some (record { 0 = tag }))) (place_of steps step))) (sym (prescriber_of_both before (related.Prescribes a b ∷ []) step))
        (go (is_text (text_of b) step) (place_of steps step) (prescriber_of before step) (one_place steps (text_of b) step row step_there) (are.each step));
  }
    where
      within : row < length list
      within = omega (arith, slice_get_within steps row (text_of b) (at_place steps (text_of b) row step_there), are.long)

      go : (same : Bool) (place : Option ℕ) (old : Option Text) → same ≡ is_place place row → IsPrescriber tags old (prescriber_at list place)
          → IsPrescriber tags (either old (if same then Some (text_of a) else None)) (prescriber_at (set list row (Some (record { 0 = tag }))) place)
      go true None old is fact = absurd (true≢false is)
      go true (Some k) None is fact =
          subst (λ (n : Option TagCollection). IsPrescriber tags (Some (text_of a)) n) (sym (get_or-set_at list row k (Some (record { 0 = tag })) None (eqb-true k row (sym is)) within)) tag_there
      go true (Some k) (Some other) is fact =
          let here : is_some (get_or list k None) ≡ true = both_there tags (Some other) (get_or list k None) fact in
          let none : is_some (get_or list k None) ≡ false = ap (λ (n : ℕ). is_some (get_or list n None)) (eqb-true k row (sym is)) ∙ free in
          absurd (true≢false (sym here ∙ none))
      go false None old is fact = subst (λ (o : Option Text). IsPrescriber tags o None) (sym (either_none old)) fact
      go false (Some k) old is fact =
          subst (λ (n : Option TagCollection). IsPrescriber tags (either old None) n)
          (sym (get_or-set_other list row k (Some (record { 0 = tag })) None (λ same. true≢false (sym (eq-eqb k row same) ∙ sym is))))
          (subst (λ (o : Option Text). IsPrescriber tags o (get_or list k None)) (sym (either_none old)) fact)
