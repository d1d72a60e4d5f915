-- How a map of several collections is seen, before and after a call.
use Rattle.std.proofs.Common.{◌≡◌, ◌∙◌, ap, sym, refl, ℕ, zero, suc, ◌<◌, ◌≤◌, ℤ, List, [], ◌∷◌, map, set, length, replicate, get_or, slice_get, None, arith}
use Rattle.std.specs.FinMap.{empty, entries, get, get-empty, same_map}
use Rattle.std.proofs.lemmas.List.{map-set, get_or-set_same, get_or-set_other, length-set, length-map}
use Rattle.maps.specs.Insertion.{IsRefused}
use Rattle.maps.specs.Keyed.{Keyed, Adds, none}
use Rattle.maps.specs.Numbered.{Numbered, none_held, place_cmp, KeepsOtherRoom, AddsAt, OnlyMakesRoom, all_from}
use Rattle.maps.specs.PlaceOrder.{places_total, same_places}
use Rattle.maps.specs.declared.error.InsertError.{InsertError}
use Rattle.maps.specs.declared.error.InsertError.TheVariants.{Taken, NoMemory}
use Rattle.maps.proofs.ByNumber.{in_place_order, held, item_held, item_of, read_at, kept_at, added_at}

abbrev pub seen_numbered : {X : Type 0} → List (Keyed X) → Numbered X
seen_numbered maps = record { items = held maps; room = map (λ m. m.room) maps }

-- the room of a collection is its own
room_of : {X : Type 0} → (maps : List (Keyed X)) (number : ℕ) (m : Keyed X) → number < length maps → m ≡ get_or maps number m → get_or (map (λ m. m.room) maps) number 0 ≡ m.room
room_of [] number m within is = absurd (omega (arith, within))
room_of (first ∷ maps) zero m within is = ap (λ s. s.room) (sym is)
room_of (first ∷ maps) (suc number) m within is = room_of maps number m (omega (arith, within)) is

module _ {X : Type 0} (maps : List (Keyed X)) (number : ℕ) (old new : Keyed X) (within : number < length maps) (is : old ≡ get_or maps number old) where
  abbrev rooms : List ℕ
  rooms = map (λ m. m.room) maps

  abbrev new_rooms : List ℕ
  new_rooms = map (λ m. m.room) (set maps number new)

  pub room_before : get_or rooms number 0 ≡ old.room
  room_before = room_of maps number old within is

  pub room_after : get_or new_rooms number 0 ≡ new.room
  room_after = ap (λ rs. get_or rs number 0) (map-set (λ (m : Keyed X). m.room) maps number new) ∙ get_or-set_same rooms number new.room 0 (omega (arith, within, length-map maps (λ (m : Keyed X). m.room)))

  other_rooms : KeepsOtherRoom rooms new_rooms number
  other_rooms = record {
    collections = ap length (map-set (λ (m : Keyed X). m.room) maps number new) ∙ length-set rooms number new.room;
    others = λ other differs. ap (λ rs. get_or rs other 0) (map-set (λ (m : Keyed X). m.room) maps number new) ∙ get_or-set_other rooms number other new.room 0 differs;
  }

  item_before : (key : List ℤ) → get (held maps) (number, key) ≡ get old.items key
  item_before key = item_held maps (number, key) ∙ ap (λ o. item_of o key) (read_at maps number old within is)

  pub makes_room : new.items ≡ old.items → old.room ≤ new.room → OnlyMakesRoom (seen_numbered maps) (seen_numbered (set maps number new)) number
  makes_room same more = record {
    items = kept_at maps number old new within is same;
    not_less = omega (arith, more, room_before, room_after);
    other_room = other_rooms;
  }

  pub adds : (key : List ℤ) (value : X) → Adds old new key value → AddsAt (seen_numbered maps) (seen_numbered (set maps number new)) (number, key) value
  adds key value added = record {
    absent = item_before key ∙ added.absent;
    items = added_at maps number old new within is key value added.items;
    lower = λ some. omega (arith, some, room_before, room_after, added.lower (omega (arith, some, room_before)));
    other_room = other_rooms;
  }

  pub is_refused : (key : List ℤ) (error : InsertError X) → IsRefused (get old.items key) old.room error → IsRefused (get (held maps) (number, key)) (get_or rooms number 0) error
  is_refused key (Taken value) refused = item_before key ∙ refused
  is_refused key NoMemory refused = (item_before key ∙ refused.0, room_before ∙ refused.1)

-- the value at a place is the value that its collection has
pub item_seen : {X : Type 0} → (maps : List (Keyed X)) (now : Numbered X) (number : ℕ) (key : List ℤ) → seen_numbered maps ≡ now → get now.items (number, key) ≡ item_of (slice_get maps number) key
item_seen maps now number key is = sym (ap (λ seen. get seen.items (number, key)) is) ∙ item_held maps (number, key)

pub no_collection : {X : Type 0} → (maps : List (Keyed X)) (number : ℕ) → length maps ≤ number → slice_get maps number ≡ None
no_collection [] number past = refl
no_collection (m ∷ maps) zero past = absurd (omega (arith, past))
no_collection (m ∷ maps) (suc number) past = no_collection maps number (omega (arith, past))

pub of_collection : {X : Type 0} → (maps : List (Keyed X)) (now : Numbered X) (number : ℕ) → seen_numbered maps ≡ now → number < length now.room → number < length maps
of_collection {X} maps now number is within = omega (arith, within, ap (λ seen. length seen.room) is, length-map maps (λ (m : Keyed X). m.room))

-- several empty collections hold nothing
pub none_seen : {X : Type 0} → (count : ℕ) → seen_numbered {X = X} (replicate count none) ≡ none_held count
none_seen {X} count = λ i. record { items = no_items i; room = no_room count i }
  where
    empty_at : (count number : ℕ) (key : List ℤ) → item_of {X = X} (slice_get (replicate count none) number) key ≡ None
    empty_at zero number key = refl
    empty_at (suc count) zero key = get-empty _ key
    empty_at (suc count) (suc number) key = empty_at count number key

    no_items : held {X = X} (replicate count none) ≡ empty
    no_items = same_map places_total same_places _ _ (λ q. item_held (replicate count none) q ∙ empty_at count q.0 q.1 ∙ sym (get-empty place_cmp q))

    no_room : (count : ℕ) → map (λ (m : Keyed X). m.room) (replicate count none) ≡ replicate count 0
    no_room zero = refl
    no_room (suc count) = ap (λ rest. 0 ∷ rest) (no_room count)

-- the entries are those of the collections, one after the other
pub walked : {X : Type 0} → (maps : List (Keyed X)) (now : Numbered X) → seen_numbered maps ≡ now → all_from 0 maps ≡ entries now.items
walked maps now is = sym (in_place_order maps) ∙ ap (λ seen. entries seen.items) is

pub no_elements : {X : Type 0} → (maps : List (Keyed X)) → length maps ≡ 0 → maps ≡ []
no_elements [] none = refl
no_elements (m ∷ maps) none = absurd (omega (arith, none))

-- a collection that is as it was changes nothing
pub set_same : {X : Type 0} → (maps : List (Keyed X)) (number : ℕ) (m : Keyed X) → m ≡ get_or maps number m → set maps number m ≡ maps
set_same [] number m is = refl
set_same (first ∷ maps) zero m is = ap (λ n. n ∷ maps) is
set_same (first ∷ maps) (suc number) m is = ap (λ rest. first ∷ rest) (set_same maps number m is)
