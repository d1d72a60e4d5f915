-- The entries of a map in pages, one page after another, and where a key is among them.
use Rattle.std.specs.Prelude.{◌≡◌, ⊤, ℕ, suc, ℤ, ◌<◌, ◌≤◌, true, false, List, [], ◌∷◌, ◌++◌, length, get_or, set, Some, None}
use Rattle.std.specs.List.{AllByRecursion, flat_map}
use Rattle.std.specs.List.{insert as add}
use Rattle.std.specs.declared.cmp.Ordering.TheVariants.{Less}
use Rattle.std.specs.Ordering.{is_lt}
use Rattle.std.specs.FinMap.{find, put}
use Rattle.terms.specs.Key.{key_cmp}
use Rattle.maps.specs.declared.page.TheConstants.{HALF}
use Rattle.maps.specs.declared.pages.Found.{Found}
use Rattle.maps.specs.declared.pages.Found.TheVariants.{At, Gap, Behind}

-- a key and its value
abbrev pub Entry : Type 0 → Type 0
Entry X = List ℤ × X

-- the entries by page, and the number of further entries that there is room for
pub record Paged (X : Type 0) : Type 0 where
  pub pages : List (List (Entry X))
  pub room : ℕ

-- the entries of all pages
abbrev pub all_of : {X : Type 0} → List (List X) → List X
all_of pages = flat_map (λ page. page) pages

-- the page with this number
abbrev pub page_at : {X : Type 0} → List (List X) → ℕ → List X
page_at pages page = get_or pages page []

-- the key of the first entry
abbrev pub first_key : {X : Type 0} → List (Entry X) → List ℤ
first_key [] = []
first_key (entry ∷ entries) = entry.0

-- each page but the last is at least half full, and the last is not empty
abbrev pub AreFilled : {X : Type 0} → List (List X) → Type 0
AreFilled [] = ⊤
AreFilled (page ∷ []) = 0 < length page
AreFilled (page ∷ next ∷ pages) = (HALF ≤ length page) × AreFilled (next ∷ pages)

-- every page is at least half full
abbrev pub AreHalfFull : {X : Type 0} → List (List X) → Type 0
AreHalfFull pages = AllByRecursion (λ page. HALF ≤ length page) pages

-- The page whose first key is the last one that does not come after the key; or the first page.
pub record IsPageFor {X : Type 0} (pages : List (List (Entry X))) (key : List ℤ) (page : ℕ) : Type 0 where
  pub within : page < length pages
  pub from : 0 < page → is_lt (key_cmp key (first_key (page_at pages page))) ≡ false
  pub up_to : suc page < length pages → is_lt (key_cmp key (first_key (page_at pages (suc page)))) ≡ true

-- the key is in this page, at this place: its value is found there, and is written there
pub record IsInPage {X : Type 0} (pages : List (List (Entry X))) (key : List ℤ) (page place : ℕ) : Type 0 where
  pub page_within : page < length pages
  pub place_within : place < length (page_at pages page)
  pub key_there : (other : Entry X) → (get_or (page_at pages page) place other).0 ≡ key
  pub found : (other : Entry X) → find key_cmp key (all_of pages) ≡ Some (get_or (page_at pages page) place other).1
  pub written : (value : X) → put key_cmp key value (all_of pages) ≡ all_of (set pages page (set (page_at pages page) place (key, value)))

-- the key is in no page, and would go into this page, to this place
pub record GoesInto {X : Type 0} (pages : List (List (Entry X))) (key : List ℤ) (page place : ℕ) : Type 0 where
  pub page_within : page < length pages
  pub place_within : place ≤ length (page_at pages page)
  pub absent : find key_cmp key (all_of pages) ≡ None
  pub goes : (value : X) → put key_cmp key value (all_of pages) ≡ all_of (set pages page (add (page_at pages page) place (key, value)))

-- the key is in no page, and would go after all entries, into a page of its own; each page that is there is at least half full
pub record GoesBehind {X : Type 0} (pages : List (List (Entry X))) (key : List ℤ) : Type 0 where
  pub absent : find key_cmp key (all_of pages) ≡ None
  pub goes : (value : X) → put key_cmp key value (all_of pages) ≡ all_of (pages ++ ((key, value) ∷ []) ∷ [])
  pub half_full : AreHalfFull pages

-- all of these keys are less than the key
abbrev pub AreLess : {X : Type 0} → List (Entry X) → List ℤ → Type 0
AreLess entries key = AllByRecursion (λ entry. key_cmp entry.0 key ≡ Less) entries

-- the last page
abbrev pub last_page : {X : Type 0} → List (List X) → List X
last_page [] = []
last_page (page ∷ []) = page
last_page (page ∷ next ∷ pages) = last_page (next ∷ pages)

-- what a search for a key says
abbrev pub IsFound : {X : Type 0} → List (List (Entry X)) → List ℤ → Found → Type 0
IsFound pages key (At page place) = IsInPage pages key page place
IsFound pages key (Gap page place) = GoesInto pages key page place
IsFound pages key Behind = GoesBehind pages key
