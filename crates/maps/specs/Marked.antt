-- The entries of a map that is lent, each with whether it is marked.
use Rattle.std.specs.Prelude.{◌≡◌, ⊤, ℤ, ℕ, suc, ◌^◌, ◌<◌, ◌≤◌, ◌==◌, Bool, true, false, T, List, [], ◌∷◌, map, length, get_or, Option, Some, None, IfSome, IsSomeAnd}
use Rattle.std.specs.declared.cmp.Ordering.{Ordering}
use Rattle.std.specs.Int.{bit_at}
use Rattle.std.specs.Option.{option_map}
use Rattle.std.specs.FinMap.{FinMap, empty, from_entries, get, insert, is_sorted}
use Rattle.terms.specs.Key.{key_cmp}
use Rattle.maps.specs.Keyed.{Keyed, none}
use Rattle.maps.specs.Numbered.{all_from, place_cmp}
use Rattle.maps.specs.Paged.{Entry, all_of}
use Rattle.maps.specs.declared.page.TheConstants.{PAGE}

-- the entries by key, each with whether it is marked: so what is marked is one of the entries, with its own value
abbrev pub Marked : Type 0 → Type 0
Marked X = FinMap key_cmp (X × Bool)

-- the same by place, of several collections
abbrev pub MarkedPlaces : Type 0 → Type 0
MarkedPlaces X = FinMap place_cmp (X × Bool)

module _ {K X : Type 0} {R : K → K → Ordering} where
  -- these are the entries of the map, and none is marked
  abbrev pub AreUnmarked : FinMap R X → FinMap R (X × Bool) → Type 0
  AreUnmarked items marks = (key : K) → get marks key ≡ option_map (λ value. (value, false)) (get items key)

  -- these are the entries of the map, whether marked or not
  abbrev pub AreMarksOf : FinMap R X → FinMap R (X × Bool) → Type 0
  AreMarksOf items marks = (key : K) → option_map (λ entry. entry.0) (get marks key) ≡ get items key

  -- there is an entry with this key, and it is not marked
  abbrev pub IsLeft : FinMap R (X × Bool) → K → Type 0
  IsLeft marks key = IsSomeAnd (get marks key) (λ entry. entry.1 ≡ false)

  -- every entry is marked
  abbrev pub AreAllMarked : FinMap R (X × Bool) → Type 0
  AreAllMarked marks = (key : K) → IfSome (get marks key) (λ entry. entry.1 ≡ true)

  -- the entry with this key is marked, if there is one; nothing else has changed
  abbrev pub marked_there : FinMap R (X × Bool) → K → Option (X × Bool) → FinMap R (X × Bool)
  marked_there marks key None = marks
  marked_there marks key (Some entry) = insert marks key (entry.0, true)

  abbrev pub with_mark : FinMap R (X × Bool) → K → FinMap R (X × Bool)
  with_mark marks key = marked_there marks key (get marks key)

-- ---- how the marks are kept: a word for each page

-- A word has a 1 for each entry of its page that is not marked. So the word of a page that is full of marks is 0.
abbrev pub is_marked : ℕ → ℕ → Bool
is_marked word place = bit_at word place == 0

-- the entries of a page, with marks by place
abbrev pub with_marks : {X : Type 0} → (ℕ → Bool) → List (Entry X) → List (Entry (X × Bool))
with_marks marked [] = []
with_marks marked (entry ∷ entries) = (entry.0, (entry.1, marked 0)) ∷ with_marks (λ place. marked (suc place)) entries

-- the entries of pages, with the marks of these words
abbrev pub marked_pages : {X : Type 0} → List (List (Entry X)) → List ℕ → List (List (Entry (X × Bool)))
marked_pages [] words = []
marked_pages (page ∷ pages) [] = []
marked_pages (page ∷ pages) (word ∷ words) = with_marks (is_marked word) page ∷ marked_pages pages words

-- the entries of a map of these pages
abbrev pub marked_map : {X : Type 0} → List (List (Entry X)) → List ℕ → Marked X
marked_map pages words = from_entries (all_of (marked_pages pages words))

-- there is a word for each page, with no 1 but for its entries
abbrev pub AreWords : {X : Type 0} → List (List X) → List ℕ → Type 0
AreWords [] [] = ⊤
AreWords [] (word ∷ words) = ⊥
AreWords (page ∷ pages) [] = ⊥
AreWords (page ∷ pages) (word ∷ words) = (length page ≤ PAGE) × (word < 2 ^ length page) × AreWords pages words

-- the entries are in order, and there are words for their pages
pub record AreMarks {X : Type 0} (pages : List (List (Entry X))) (words : List ℕ) : Type 0 where
  pub sorted : T (is_sorted key_cmp (all_of pages))
  pub each : AreWords pages words

-- ---- several collections

abbrev pub without_room : {X : Type 0} → Marked X → Keyed (X × Bool)
without_room marks = record { items = marks; room = 0 }

-- the entries of several collections by their places; the first collection has number 0
abbrev pub marked_places : {X : Type 0} → List (Marked X) → MarkedPlaces X
marked_places maps = from_entries (all_from 0 (map without_room maps))

-- what a collection has under a key, if there is such a collection
abbrev pub in_map : {X : Type 0} → Option (Marked X) → List ℤ → Option (X × Bool)
in_map None key = None
in_map (Some marks) key = get marks key

-- each of these has the entries of its map, and none is marked
pub record AreUnmarkedLists {X : Type 0} (collections : List (Keyed X)) (maps : List (Marked X)) : Type 0 where
  pub many : length maps ≡ length collections
  pub each : (n : ℕ) → n < length maps → AreUnmarked (get_or collections n none).items (get_or maps n empty)
