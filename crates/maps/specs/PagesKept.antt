-- What pages keep from call to call.
use Rattle.std.specs.Prelude.{◌≡◌, ◌⊎◌, ℕ, T, ◌+◌, ◌-◌, ◌*◌, ◌^◌, ◌<◌, ◌≤◌, List, [], length}
use Rattle.std.specs.List.{AllByRecursion}
use Rattle.std.specs.FinMap.{is_sorted}
use Rattle.terms.specs.Key.{key_cmp}
use Rattle.maps.specs.declared.page.TheConstants.{HALF}
use Rattle.maps.specs.Marks.{Marks}
use Rattle.maps.specs.Paged.{AreFilled, Entry, all_of}

-- There are enough spare pages for this room: either one for each further entry; or all entries together would fill at most half of each page but one.
-- In both cases a page is spare whenever one has to be divided.
abbrev pub IsEnough : (pages spare count room : ℕ) → Type 0
IsEnough pages spare count room = (room ≤ spare) ⊎ (room + count ≤ HALF * (pages + spare - 1))

-- The entries are in order, `count` of them, which with the room is a number of 64 bits. The spare pages are empty, there are enough for the room, and the list of pages has places for all of them.
pub record AreKept {X : Type 0} (pages : List (List (Entry X))) (spare : List Marks) (places count room : ℕ) : Type 0 where
  pub sorted : T (is_sorted key_cmp (all_of pages))
  pub filled : AreFilled pages
  pub empty : AllByRecursion (λ page. page ≡ ([], [])) spare
  pub fits : length pages + length spare ≤ places
  pub counted : count ≡ length (all_of pages)
  pub most : count + room < 2 ^ 64
  pub enough : IsEnough (length pages) (length spare) count room
