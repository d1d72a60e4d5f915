-- Pages after a mark was added, or rewritten.
use Rattle.std.proofs.Common.{◌≡◌, ◌∙◌, ap, sym, subst, refl, ℕ, zero, suc, ◌+◌, ◌-◌, ◌<◌, ◌≤◌, ℤ, List, [], ◌∷◌, ◌++◌, map, set, length, take, drop, get_or, arith}
use Rattle.std.specs.List.{AllByRecursion}
use Rattle.std.specs.List.{insert as add}
use Rattle.std.proofs.lemmas.List.{get_or-map, length-map, map-set}
use Rattle.maps.specs.declared.mark.Mark.{Mark}
use Rattle.maps.specs.declared.stored.Brief.{Brief}
use Rattle.maps.specs.Marks.{IsPage, IsWithin, Marks, entries_in, entry_of, first_after, key_of, said_of, seen_pages, with_brief}
use Rattle.maps.specs.Paged.{Entry, first_key, page_at}
use Rattle.maps.proofs.Entered.{all_added, all_at, all_joined, all_set, held_grown, map_added, map_joined, page_held, page_stays, page_with, pages_grown, seen_read, still_page}

-- to write an entry with the key that is there leaves the first key as it is
first_rewritten : {X : Type 0} → (es : List (Entry X)) (n : ℕ) (key : List ℤ) (value : X) → ((other : Entry X) → (get_or es n other).0 ≡ key) → first_key (set es n (key, value)) ≡ first_key es
first_rewritten [] n key value there = refl
first_rewritten (e ∷ es) zero key value there = sym (there e)
first_rewritten (e ∷ es) (suc n) key value there = refl

-- the mark at a place
abbrev at_place : (marks : List Mark) (n : ℕ) → n < length marks → Mark
at_place [] n within = absurd (omega (arith, within))
at_place (mark ∷ marks) zero within = mark
at_place (mark ∷ marks) (suc n) within = at_place marks n (omega (arith, within))

at_place_read : (marks : List Mark) (n : ℕ) (within : n < length marks) (other : Mark) → at_place marks n within ≡ get_or marks n other
at_place_read [] n within other = absurd (omega (arith, within))
at_place_read (mark ∷ marks) zero within other = refl
at_place_read (mark ∷ marks) (suc n) within other = at_place_read marks n (omega (arith, within)) other

module _ {X : Type 0} (said : Brief → List ℤ → X) (most : ℕ) (words : List ℤ) where
  -- ---- one more mark

  -- a mark more in a page is an entry more
  pub entries_with : (page : Marks) (first key : List ℤ) (place : ℕ) (mark : Mark) (value : X) → entry_of said words mark ≡ (key, value) → entries_in said words (first, add page.1 place mark) ≡ add (entries_in said words page) place (key, value)
  entries_with page first key place mark value is = map_added (entry_of said words) page.1 place mark ∙ ap (λ e. add (entries_in said words page) place e) is

  pub seen_set : (pages : List Marks) (n : ℕ) (page : Marks) → seen_pages said words (set pages n page) ≡ set (seen_pages said words pages) n (entries_in said words page)
  seen_set pages n page = map-set (entries_in said words) pages n page

  pub seen_divided : (pages : List Marks) (n at : ℕ) (lower upper : Marks) →
      seen_pages said words (add (set pages n lower) at upper) ≡ add (set (seen_pages said words pages) n (entries_in said words lower)) at (entries_in said words upper)
  seen_divided pages n at lower upper = map_added (entries_in said words) (set pages n lower) at upper ∙ ap (λ ps. add ps at (entries_in said words upper)) (seen_set pages n lower)

  pub parts_with : (lower upper : Marks) (page : Marks) (place : ℕ) (mark : Mark) (key : List ℤ) (value : X) → lower.1 ++ upper.1 ≡ add page.1 place mark → entry_of said words mark ≡ (key, value) →
      entries_in said words lower ++ entries_in said words upper ≡ add (entries_in said words page) place (key, value)
  parts_with lower upper page place mark key value parts is = sym (map_joined (entry_of said words) lower.1 upper.1) ∙ ap (map (entry_of said words)) parts ∙ entries_with page [] key place mark value is

  pub seen_behind : (pages : List Marks) (page : Marks) (mark : Mark) (key : List ℤ) (value : X) → page.1 ≡ mark ∷ [] → entry_of said words mark ≡ (key, value) → seen_pages said words (pages ++ page ∷ []) ≡ seen_pages said words pages ++ ((key, value) ∷ []) ∷ []
  seen_behind pages page mark key value one is = map_joined (entries_in said words) pages (page ∷ []) ∙ ap (λ es. seen_pages said words pages ++ es ∷ []) (ap (map (entry_of said words)) one ∙ ap (λ e. e ∷ []) is)

  -- ---- other small numbers, where values have no words

  module _ (page : Marks) (place : ℕ) (mark : Mark) (brief : Brief) (key : List ℤ) (value : X) (none : most ≡ 0) (it : IsPage said most words page) (within : place < length page.1) (is : mark ≡ get_or page.1 place mark)
      (there : (other : Entry X) → (get_or (entries_in said words page) place other).0 ≡ key) (says : said brief [] ≡ value) where
    mark_within : IsWithin most words mark
    mark_within = subst (IsWithin most words) (sym is) (all_at (IsWithin most words) page.1 place mark within it.within)

    entry_rewritten : entry_of said words (with_brief mark brief) ≡ (key, value)
    entry_rewritten =
        let name : key_of words mark ≡ key = ap (key_of words) is ∙ sym (ap (λ e. e.0) (get_or-map (entry_of said words) page.1 place mark (key, value) within)) ∙ there (key, value) in
        let few : mark.words ≡ 0 = omega (arith, mark_within.few, none) in
        let said_so : said_of said words (with_brief mark brief) ≡ value = ap (λ n. said brief (take n (drop (mark.at + (mark.components - 1)) words))) few ∙ says in
        λ i. (name i, said_so i)

    pub entries_rewritten : (first : List ℤ) → entries_in said words (first, set page.1 place (with_brief mark brief)) ≡ set (entries_in said words page) place (key, value)
    entries_rewritten first = map-set (entry_of said words) page.1 place (with_brief mark brief) ∙ ap (set (entries_in said words page) place) entry_rewritten

    pub page_rewritten : IsPage said most words (page.0, set page.1 place (with_brief mark brief))
    page_rewritten = record {
      within = all_set (IsWithin most words) page.1 place (with_brief mark brief) it.within (record { components = mark_within.components; few = mark_within.few; place = mark_within.place });
      first = it.first ∙ sym (ap first_key (entries_rewritten page.0) ∙ first_rewritten (entries_in said words page) place key value there);
    }

-- ---- a page of several, after the words have grown by those of an entry

module _ {X : Type 0} (said : Brief → List ℤ → X) (most : ℕ) (words now more : List ℤ) (grown : now ≡ words ++ more) (raw : List Marks) (held : AllByRecursion (IsPage said most words) raw) where
  abbrev before : List (List (Entry X))
  before = seen_pages said words raw

  module _ (n : ℕ) (old : Marks) (within : n < length raw) (is : old ≡ get_or raw n old) where
    old_held : IsPage said most now old
    old_held = subst (λ ws. IsPage said most ws old) (sym grown) (still_page said most words more old (page_held said most words raw n old within is held))

    pub page_before : entries_in said now old ≡ page_at before n
    page_before = ap (λ ws. entries_in said ws old) grown ∙ page_stays said most words more old (page_held said most words raw n old within is held) ∙ seen_read said most words raw n old within is

    pub page_grown : IsPage said most now old
    page_grown = old_held

    -- a page in the place of one
    pub seen_now : (new : Marks) → seen_pages said now (set raw n new) ≡ set before n (entries_in said now new)
    seen_now new = seen_set said most now raw n new ∙ ap (λ ps. set ps n (entries_in said now new)) (pages_grown said most words now more grown raw held)

    pub held_now : (new : Marks) → IsPage said most now new → AllByRecursion (IsPage said most now) (set raw n new)
    held_now new one = all_set (IsPage said most now) raw n new (held_grown said most words now more grown raw held) one

    -- one more mark in it
    module _ (place : ℕ) (mark : Mark) (key : List ℤ) (value : X) (entry : entry_of said now mark ≡ (key, value)) (there : IsWithin most now mark) where
      pub entries_now : (new : Marks) → new ≡ (first_after place key old.0, add old.1 place mark) → entries_in said now new ≡ add (page_at before n) place (key, value)
      entries_now new new_is = ap (entries_in said now) new_is ∙ entries_with said most now old (first_after place key old.0) key place mark value entry ∙ ap (λ es. add es place (key, value)) page_before

      pub page_now : (new : Marks) → new ≡ (first_after place key old.0, add old.1 place mark) → place ≤ length (page_at before n) → IsPage said most now new
      page_now new new_is fits =
          let many : length (page_at before n) ≡ length old.1 = sym (ap length page_before) ∙ length-map old.1 (entry_of said now) in
          subst (IsPage said most now) (sym new_is) (page_with said most now old place mark key (omega (arith, fits, many)) old_held there (ap (λ e. e.0) entry))

      -- in two pages in its place
      pub parts_now : (lower upper : Marks) → lower.1 ++ upper.1 ≡ add old.1 place mark → entries_in said now lower ++ entries_in said now upper ≡ add (page_at before n) place (key, value)
      parts_now lower upper parts = parts_with said most now lower upper old place mark key value parts entry ∙ ap (λ es. add es place (key, value)) page_before

    pub seen_halves : (at : ℕ) (lower upper : Marks) → seen_pages said now (add (set raw n lower) at upper) ≡ add (set before n (entries_in said now lower)) at (entries_in said now upper)
    seen_halves at lower upper = seen_divided said most now raw n at lower upper ∙ ap (λ ps. add (set ps n (entries_in said now lower)) at (entries_in said now upper)) (pages_grown said most words now more grown raw held)

    pub held_halves : (at : ℕ) (lower upper : Marks) → IsPage said most now lower → IsPage said most now upper → AllByRecursion (IsPage said most now) (add (set raw n lower) at upper)
    held_halves at lower upper one two = all_added (IsPage said most now) (set raw n lower) at upper (held_now lower one) two

  -- a page behind them all
  pub seen_with : (page : Marks) (mark : Mark) (key : List ℤ) (value : X) → page.1 ≡ mark ∷ [] → entry_of said now mark ≡ (key, value) → seen_pages said now (raw ++ page ∷ []) ≡ before ++ ((key, value) ∷ []) ∷ []
  seen_with page mark key value one entry = seen_behind said most now raw page mark key value one entry ∙ ap (λ ps. ps ++ ((key, value) ∷ []) ∷ []) (pages_grown said most words now more grown raw held)

  pub held_with : (page : Marks) → IsPage said most now page → AllByRecursion (IsPage said most now) (raw ++ page ∷ [])
  held_with page one = all_joined (IsPage said most now) raw (page ∷ []) (held_grown said most words now more grown raw held) (one, tt)

  -- ---- other small numbers for an entry, where values have no words

  module _ (n : ℕ) (old : Marks) (within : n < length raw) (is : old ≡ get_or raw n old) (place : ℕ) (brief : Brief) (key : List ℤ) (value : X) (none : most ≡ 0) (fits : place < length (page_at before n))
      (there : (other : Entry X) → (get_or (page_at before n) place other).0 ≡ key) (says : said brief [] ≡ value) (new : Marks) (new_is : (other : Mark) → new ≡ (old.0, set old.1 place (with_brief (get_or old.1 place other) brief))) where
    fits_old : place < length old.1
    fits_old = omega (arith, fits, ap length (page_before n old within is), length-map old.1 (entry_of said now))

    abbrev mark_there : Mark
    mark_there = at_place old.1 place fits_old

    there_now : (other : Entry X) → (get_or (entries_in said now old) place other).0 ≡ key
    there_now other = ap (λ es. (get_or es place other).0) (page_before n old within is) ∙ there other

    new_so : new ≡ (old.0, set old.1 place (with_brief mark_there brief))
    new_so = new_is mark_there ∙ ap (λ m. (old.0, set old.1 place (with_brief m brief))) (sym (at_place_read old.1 place fits_old mark_there))

    pub entries_so : entries_in said now new ≡ set (page_at before n) place (key, value)
    entries_so = ap (entries_in said now) new_so ∙ entries_rewritten said most now old place mark_there brief key value none (page_grown n old within is) fits_old (at_place_read old.1 place fits_old mark_there) there_now says old.0 ∙ ap (λ es. set es place (key, value)) (page_before n old within is)

    pub page_so : IsPage said most now new
    page_so = subst (IsPage said most now) (sym new_so) (page_rewritten said most now old place mark_there brief key value none (page_grown n old within is) fits_old (at_place_read old.1 place fits_old mark_there) there_now says)
