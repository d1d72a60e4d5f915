-- A map from the keys of several collections, each with its number.
use Rattle.std.specs.Prelude.{◌≡◌, ◌≢◌, ℕ, suc, ℤ, ◌+◌, ◌<◌, ◌≤◌, ◌==◌, List, [], ◌∷◌, ◌++◌, map, length, get_or, replicate, None}
use Rattle.std.specs.declared.cmp.Ordering.{Ordering}
use Rattle.std.specs.List.{filter}
use Rattle.std.specs.Ordering.{nat_cmp, ordering_then}
use Rattle.std.specs.FinMap.{FinMap, empty, entries, get, insert}
use Rattle.terms.specs.Key.{key_cmp}
use Rattle.maps.specs.Keyed.{Keyed}

-- a collection's number, and a key
abbrev pub Place : Type 0
Place = ℕ × List ℤ

-- the number decides first, and then the key
abbrev pub place_cmp : Place → Place → Ordering
place_cmp a b = ordering_then (nat_cmp a.0 b.0) (key_cmp a.1 b.1)

-- the entries by place; and for each collection, by number, how many more entries there is room for
pub record Numbered (X : Type 0) : Type 0 where
  pub items : FinMap place_cmp X
  pub room : List ℕ

-- no entries, and no room for any, of so many collections
abbrev pub none_held : {X : Type 0} → ℕ → Numbered X
none_held count = record { items = empty; room = replicate count 0 }

-- how many more entries of a collection there is room for
abbrev pub room_at : {X : Type 0} → Numbered X → ℕ → ℕ
room_at held number = get_or held.room number 0

-- the room of the other collections is as it was
pub record KeepsOtherRoom (old new : List ℕ) (number : ℕ) : Type 0 where
  pub collections : length new ≡ length old
  pub others : (other : ℕ) → other ≢ number → get_or new other 0 ≡ get_or old other 0

-- There was no entry at the place, and now there is this one. Nothing else has changed, except the room of its collection: if
-- there was some, it is one less.
pub record AddsAt {X : Type 0} (old new : Numbered X) (place : Place) (value : X) : Type 0 where
  pub absent : get old.items place ≡ None
  pub items : new.items ≡ insert old.items place value
  pub lower : 0 < room_at old place.0 → room_at new place.0 + 1 ≡ room_at old place.0
  pub other_room : KeepsOtherRoom old.room new.room place.0

-- there may be more room for the collection with this number, and nothing else has changed
pub record OnlyMakesRoom {X : Type 0} (old new : Numbered X) (number : ℕ) : Type 0 where
  pub items : new.items ≡ old.items
  pub not_less : room_at old number ≤ room_at new number
  pub other_room : KeepsOtherRoom old.room new.room number

-- an entry with its place
abbrev pub placed : {X : Type 0} → ℕ → List ℤ × X → Place × X
placed number entry = ((number, entry.0), entry.1)

-- the entries of several collections in the order of their places; the first collection has this number
abbrev pub all_from : {X : Type 0} → ℕ → List (Keyed X) → List (Place × X)
all_from number [] = []
all_from number (collection ∷ collections) = map (placed number) (entries collection.items) ++ all_from (suc number) collections

-- what is left of a walk: these entries of the collection with this number, and all entries of the collections after it
abbrev pub left_of : {X : Type 0} → ℕ → List (List ℤ × X) → List (Keyed X) → List (Place × X)
left_of number entries collections = map (placed number) entries ++ all_from (suc number) collections

-- the entries of one collection
abbrev pub of_number : {X : Type 0} → ℕ → List (Place × X) → List (Place × X)
of_number number list = filter (λ entry. entry.0.0 == number) list
