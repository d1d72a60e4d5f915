-- The entries of a map as its pages have them: marks, whose words stand with those of all entries.
use Rattle.std.specs.Prelude.{◌≡◌, ℕ, zero, suc, ℤ, ◌+◌, ◌-◌, ◌*◌, ◌^◌, ◌<◌, ◌≤◌, List, [], ◌∷◌, map, length, take, drop, ◌++◌}
use Rattle.std.specs.List.{AllByRecursion, flat_map}
use Rattle.terms.specs.declared.key.TheConstants.{MAX_COMPONENTS}
use Rattle.maps.specs.declared.mark.Mark.{Mark}
use Rattle.maps.specs.declared.stored.Brief.{Brief}
use Rattle.maps.specs.Paged.{Entry, first_key}

abbrev pub key_by : ℕ → ℤ → List ℤ → List ℤ
key_by zero first others = []
key_by (suc count) first others = first ∷ others

-- the key of a mark
abbrev pub key_of : List ℤ → Mark → List ℤ
key_of words mark = key_by mark.components mark.first (take (mark.components - 1) (drop mark.at words))

-- the value of a mark, if small numbers and words say a value so
abbrev pub said_of : {X : Type 0} → (Brief → List ℤ → X) → List ℤ → Mark → X
said_of said words mark = said mark.brief (take mark.words (drop (mark.at + (mark.components - 1)) words))

-- the entry of a mark
abbrev pub entry_of : {X : Type 0} → (Brief → List ℤ → X) → List ℤ → Mark → Entry X
entry_of said words mark = (key_of words mark, said_of said words mark)

-- the words of a mark are among these; a value has so many at most
pub record IsWithin (most : ℕ) (words : List ℤ) (mark : Mark) : Type 0 where
  pub components : mark.components ≤ MAX_COMPONENTS
  pub few : mark.words ≤ most
  pub place : mark.at + (mark.components - 1) + mark.words ≤ length words

-- a page: its first key, and its marks
abbrev pub Marks : Type 0
Marks = List ℤ × List Mark

-- the entries of a page
abbrev pub entries_in : {X : Type 0} → (Brief → List ℤ → X) → List ℤ → Marks → List (Entry X)
entries_in said words page = map (entry_of said words) page.1

-- the entries of pages
abbrev pub seen_pages : {X : Type 0} → (Brief → List ℤ → X) → List ℤ → List Marks → List (List (Entry X))
seen_pages said words pages = map (entries_in said words) pages

-- the words of each mark are among these, and the first key is the first
pub record IsPage {X : Type 0} (said : Brief → List ℤ → X) (most : ℕ) (words : List ℤ) (page : Marks) : Type 0 where
  pub within : AllByRecursion (IsWithin most words) page.1
  pub first : page.0 ≡ first_key (entries_in said words page)

-- each page has its words among these; and for each further entry that there is room for, there are places for its words
pub record AreHeld {X : Type 0} (said : Brief → List ℤ → X) (most : ℕ) (words : List ℤ) (places : ℕ) (pages : List Marks) (room : ℕ) : Type 0 where
  pub each : AllByRecursion (IsPage said most words) pages
  pub enough : length words + room * (MAX_COMPONENTS + most) ≤ places
  pub few : length words + room * (MAX_COMPONENTS + most) < 2 ^ 32

-- what is left of a walk: the first page from this place on, and the pages after it
abbrev pub left_in : {X : Type 0} → ℕ → List (List X) → List X
left_in place [] = []
left_in place (page ∷ pages) = drop place page ++ flat_map (λ page. page) pages

-- the first key after a mark was added at a place
abbrev pub first_after : ℕ → List ℤ → List ℤ → List ℤ
first_after zero key first = key
first_after (suc place) key first = first

-- a mark with other small numbers
abbrev pub with_brief : Mark → Brief → Mark
with_brief mark brief = record { first = mark.first; at = mark.at; brief = brief; components = mark.components; words = mark.words }
