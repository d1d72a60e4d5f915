-- A map from keys, with room for more entries.
use Rattle.std.specs.Prelude.{◌≡◌, ℕ, ℤ, ◌+◌, ◌*◌, ◌/◌, ◌^◌, ◌<◌, ◌≤◌, List, length, get_or, set, Some, None}
use Rattle.std.specs.List.{insert as add}
use Rattle.std.specs.FinMap.{FinMap, empty, get, insert, find, put}
use Rattle.terms.specs.Key.{key_cmp}

-- the entries by key, and the number of further entries that there is room for
pub record Keyed (X : Type 0) : Type 0 where
  pub items : FinMap key_cmp X
  pub room : ℕ

-- no entries, and no room
abbrev pub none : {X : Type 0} → Keyed X
none = record { items = empty; room = 0 }

-- a search among this many entries, fewer than `2 ^ d`, makes at most `d * (d + 1) / 2` comparisons
abbrev pub ComparesFew : ℕ → ℕ → ℕ → Type 0
ComparesFew count old new = (digits : ℕ) → count < 2 ^ digits → new ≤ old + digits * (digits + 1) / 2

-- there was no entry with the key, and now there is this one; if there was room, it is one less
pub record Adds {X : Type 0} (old new : Keyed X) (key : List ℤ) (value : X) : Type 0 where
  pub absent : get old.items key ≡ None
  pub items : new.items ≡ insert old.items key value
  pub lower : 0 < old.room → new.room + 1 ≡ old.room

-- the key is at this place of the list: its value is found there, and is written there
pub record IsAt {X : Type 0} (entries : List (List ℤ × X)) (key : List ℤ) (place : ℕ) : Type 0 where
  pub within : place < length entries
  pub key_there : (other : List ℤ × X) → (get_or entries place other).0 ≡ key
  pub found : (other : List ℤ × X) → find key_cmp key entries ≡ Some (get_or entries place other).1
  pub written_there : (value : X) → put key_cmp key value entries ≡ set entries place (key, value)

-- the key is not in the list, and would go to this place of it
pub record IsGapFor {X : Type 0} (entries : List (List ℤ × X)) (key : List ℤ) (place : ℕ) : Type 0 where
  pub within : place ≤ length entries
  pub absent : find key_cmp key entries ≡ None
  pub goes_there : (value : X) → put key_cmp key value entries ≡ add entries place (key, value)
