-- Rows of truth values (marks), and the relations that they stand for.
use Rattle.std.specs.Prelude.{◌≡◌, ℕ, Bool, true, false, List, [], length, map, Option, Some, None, get_or, Vec}
use Rattle.std.specs.declared.alloc.Global.{Global}
use Rattle.std.proofs.Math.ListN.{set}
use Rattle.std.specs.List.{list_any, AllByRecursion}
use Rattle.terms.specs.declared.name.TagCollection.{TagCollection}
use Rattle.syntax.specs.declared.tree.Relation.{Relation}
use Rattle.steptree.specs.Names.{Text, place_of}
use Rattle.graph.specs.Tree.{prescriber_of}

-- the mark at a place, or false if there is no place
abbrev pub mark_at : List Bool → Option ℕ → Bool
mark_at row None = false
mark_at row (Some place) = get_or row place false

-- the mark in a row at a place, or false if there is none
abbrev pub mark_between : List (List Bool) → Option ℕ → Option ℕ → Bool
mark_between rows None place = false
mark_between rows (Some row) place = mark_at (get_or rows row []) place

-- a name is marked in the row exactly if the list has its relation
pub record AreMarks (is : Text → Relation → Bool) (names : List Text) (before : List Relation) (row : List Bool) : Type 0 where
  pub long : length row ≡ length names
  pub each : (name : Text) → list_any (is name) before ≡ mark_at row (place_of names name)

-- a step and a name are marked in the rows exactly if the list has the relation between them
pub record AreRows (is : Text → Text → Relation → Bool) (steps names : List Text) (before : List Relation) (rows : List (List Bool)) : Type 0 where
  pub long : length rows ≡ length steps
  pub wide : AllByRecursion (λ row. length row ≡ length names) rows
  pub each : (step name : Text) → list_any (is step name) before ≡ mark_between rows (place_of steps step) (place_of names name)

-- the number is that of the tag collection that prescribes a step; neither is there, or both are
abbrev pub IsPrescriber : List Text → Option Text → Option TagCollection → Type 0
IsPrescriber tags None number = number ≡ None
IsPrescriber tags (Some tag) None = ⊥
IsPrescriber tags (Some tag) (Some number) = place_of tags tag ≡ Some number.0

abbrev pub prescriber_at : List (Option TagCollection) → Option ℕ → Option TagCollection
prescriber_at list None = None
prescriber_at list (Some place) = get_or list place None

-- the list has the prescriber of each step
pub record ArePrescribers (tags steps : List Text) (before : List Relation) (list : List (Option TagCollection)) : Type 0 where
  pub long : length list ≡ length steps
  pub each : (step : Text) → IsPrescriber tags (prescriber_of before step) (prescriber_at list (place_of steps step))

-- ---- marking

-- the row after a mark is set at a place, if there is a place
abbrev pub with_mark : List Bool → Option ℕ → List Bool
with_mark row None = row
with_mark row (Some place) = set row place true

abbrev pub with_mark_between : List (List Bool) → Option ℕ → Option ℕ → List (List Bool)
with_mark_between rows None place = rows
with_mark_between rows (Some row) place = set rows row (with_mark (get_or rows row []) place)

-- the rows as plain lists
abbrev pub bits : Vec (Vec Bool Global) Global → List (List Bool)
bits rows = map (λ row. row.items) rows.items

-- the list after a tag's number is set at the place of a step
abbrev pub with_prescriber : List (Option TagCollection) → Option ℕ → Option ℕ → List (Option TagCollection)
with_prescriber old (Some place) (Some tag) = set old place (Some (record { 0 = tag }))
with_prescriber old step tag = old
