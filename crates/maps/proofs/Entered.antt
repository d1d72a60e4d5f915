-- The entries of marks, whose words stay as others come.
use Rattle.std.proofs.Common.{◌≡◌, ◌∙◌, ap, sym, refl, subst, ℕ, zero, suc, ℤ, ◌+◌, ◌-◌, ◌*◌, ◌^◌, ◌<◌, ◌≤◌, List, [], ◌∷◌, ◌++◌, map, set, length, take, drop, get_or, slice_get, Some, arith, length-append}
use Rattle.std.specs.List.{AllByRecursion, flat_map}
use Rattle.std.specs.List.{insert as add}
use Rattle.std.proofs.Math.Nat.{suc-mul}
use Rattle.std.proofs.Math.Seq.{take-append_seam}
use Rattle.std.proofs.lemmas.List.{drop-append-le, get_or-map, length-drop, length-map, take-append-le}
use Rattle.terms.specs.declared.key.TheConstants.{MAX_COMPONENTS}
use Rattle.maps.specs.declared.mark.Mark.{Mark}
use Rattle.maps.specs.declared.stored.Brief.{Brief}
use Rattle.maps.specs.Marks.{IsPage, IsWithin, Marks, entries_in, entry_of, first_after, key_by, key_of, left_in, said_of, seen_pages}
use Rattle.maps.specs.Paged.{Entry, first_key, page_at}
use Rattle.maps.specs.Stored.{first_word, other_words}

-- ---- lists

module _ {X : Type 0} (P : X → Type 0) where
  pub all_added : (xs : List X) (n : ℕ) (x : X) → AllByRecursion P xs → P x → AllByRecursion P (add xs n x)
  all_added xs zero x all one = (one, all)
  all_added [] (suc n) x all one = (one, tt)
  all_added (y ∷ xs) (suc n) x all one = (all.0, all_added xs n x all.1 one)

  pub all_set : (xs : List X) (n : ℕ) (x : X) → AllByRecursion P xs → P x → AllByRecursion P (set xs n x)
  all_set [] n x all one = tt
  all_set (y ∷ xs) zero x all one = (one, all.1)
  all_set (y ∷ xs) (suc n) x all one = (all.0, all_set xs n x all.1 one)

  pub all_joined : (xs ys : List X) → AllByRecursion P xs → AllByRecursion P ys → AllByRecursion P (xs ++ ys)
  all_joined [] ys all others = others
  all_joined (x ∷ xs) ys all others = (all.0, all_joined xs ys all.1 others)

  pub all_front : (xs ys : List X) → AllByRecursion P (xs ++ ys) → AllByRecursion P xs
  all_front [] ys all = tt
  all_front (x ∷ xs) ys all = (all.0, all_front xs ys all.1)

  pub all_rear : (xs ys : List X) → AllByRecursion P (xs ++ ys) → AllByRecursion P ys
  all_rear [] ys all = all
  all_rear (x ∷ xs) ys all = all_rear xs ys all.1

  pub all_at : (xs : List X) (n : ℕ) (d : X) → n < length xs → AllByRecursion P xs → P (get_or xs n d)
  all_at [] n d within all = absurd (omega (arith, within))
  all_at (x ∷ xs) zero d within all = all.0
  all_at (x ∷ xs) (suc n) d within all = all_at xs n d (omega (arith, within)) all.1

pub all_meant : {X : Type 0} {P Q : X → Type 0} → ((x : X) → P x → Q x) → (xs : List X) → AllByRecursion P xs → AllByRecursion Q xs
all_meant means [] all = tt
all_meant means (x ∷ xs) all = (means x all.0, all_meant means xs all.1)

pub map_added : {X Y : Type 0} → (f : X → Y) (xs : List X) (n : ℕ) (x : X) → map f (add xs n x) ≡ add (map f xs) n (f x)
map_added f xs zero x = refl
map_added f [] (suc n) x = refl
map_added f (y ∷ xs) (suc n) x = ap (λ ys. f y ∷ ys) (map_added f xs n x)

pub map_joined : {X Y : Type 0} → (f : X → Y) (xs ys : List X) → map f (xs ++ ys) ≡ map f xs ++ map f ys
map_joined f [] ys = refl
map_joined f (x ∷ xs) ys = ap (λ zs. f x ∷ zs) (map_joined f xs ys)

-- words amid a list stay as others come behind it
words_stay : (words more : List ℤ) (at count : ℕ) → at + count ≤ length words → take count (drop at (words ++ more)) ≡ take count (drop at words)
words_stay words more at count within =
    ap (take count) (drop-append-le at words more (omega (arith, within))) ∙ take-append-le count (drop at words) more (omega (arith, within, length-drop at words))

module _ {X : Type 0} (said : Brief → List ℤ → X) (most : ℕ) (words more : List ℤ) where
  pub still_within : (mark : Mark) → IsWithin most words mark → IsWithin most (words ++ more) mark
  still_within mark it = record { components = it.components; few = it.few; place = omega (arith, it.place, length-append words more) }

  pub entry_stays : (mark : Mark) → IsWithin most words mark → entry_of said (words ++ more) mark ≡ entry_of said words mark
  entry_stays mark it =
      let key : key_of (words ++ more) mark ≡ key_of words mark = ap (key_by mark.components mark.first) (words_stay words more mark.at (mark.components - 1) (omega (arith, it.place))) in
      let value : said_of said (words ++ more) mark ≡ said_of said words mark = ap (said mark.brief) (words_stay words more (mark.at + (mark.components - 1)) mark.words it.place) in
      λ i. (key i, value i)

  entries_stay_of : (marks : List Mark) → AllByRecursion (IsWithin most words) marks → map (entry_of said (words ++ more)) marks ≡ map (entry_of said words) marks
  entries_stay_of [] all = refl
  entries_stay_of (mark ∷ marks) all = λ i. entry_stays mark all.0 i ∷ entries_stay_of marks all.1 i

  pub page_stays : (page : Marks) → IsPage said most words page → entries_in said (words ++ more) page ≡ entries_in said words page
  page_stays page it = entries_stay_of page.1 it.within

  pub still_page : (page : Marks) → IsPage said most words page → IsPage said most (words ++ more) page
  still_page page it = record { within = all_meant still_within page.1 it.within; first = it.first ∙ sym (ap first_key (page_stays page it)) }

  pub pages_stay : (pages : List Marks) → AllByRecursion (IsPage said most words) pages → seen_pages said (words ++ more) pages ≡ seen_pages said words pages
  pages_stay [] all = refl
  pages_stay (page ∷ pages) all = λ i. page_stays page all.0 i ∷ pages_stay pages all.1 i

  pub still_pages : (pages : List Marks) → AllByRecursion (IsPage said most words) pages → AllByRecursion (IsPage said most (words ++ more)) pages
  still_pages pages all = all_meant still_page pages all

-- the last mark is the last entry
pub seen_at : {X Y : Type 0} → (f : X → Y) (xs : List X) (n : ℕ) (x : X) → slice_get xs n ≡ Some x → slice_get (map f xs) n ≡ Some (f x)
seen_at f [] n x is = absurd (cc)
seen_at f (y ∷ xs) zero x is = let same : y ≡ x = cc in ap (λ z. Some (f z)) same
seen_at f (y ∷ xs) (suc n) x is = seen_at f xs n x is

pub held_at : {X : Type 0} (P : X → Type 0) → (xs : List X) (n : ℕ) (x : X) → slice_get xs n ≡ Some x → AllByRecursion P xs → P x
held_at P [] n x is all = absurd (cc)
held_at P (y ∷ xs) zero x is all = let same : y ≡ x = cc in subst P same all.0
held_at P (y ∷ xs) (suc n) x is all = held_at P xs n x is all.1

-- the first keys of two parts
pub first_front : {X : Type 0} → (f : Mark → Entry X) (n : ℕ) (marks : List Mark) → 0 < n → first_key (map f (take n marks)) ≡ first_key (map f marks)
first_front f zero marks some = absurd (omega (arith, some))
first_front f (suc n) [] some = refl
first_front f (suc n) (mark ∷ marks) some = refl

pub first_rear : {X : Type 0} → (f : Mark → Entry X) (n : ℕ) (marks : List Mark) (other : Entry X) → n < length marks → (get_or (map f marks) n other).0 ≡ first_key (map f (drop n marks))
first_rear f n [] other within = absurd (omega (arith, within))
first_rear f zero (mark ∷ marks) other within = refl
first_rear f (suc n) (mark ∷ marks) other within = first_rear f n marks other (omega (arith, within))

pub first_rear_by : {X : Type 0} → (f : Mark → Entry X) (n : ℕ) (marks : List Mark) (key : List ℤ) → n < length marks → ((other : Entry X) → key ≡ (get_or (map f marks) n other).0) → key ≡ first_key (map f (drop n marks))
first_rear_by f n [] key within is = absurd (omega (arith, within))
first_rear_by f n (mark ∷ marks) key within is = is (f mark) ∙ first_rear f n (mark ∷ marks) (f mark) within

drop_next : {X : Type 0} → (xs : List X) (n : ℕ) (x : X) → n < length xs → x ≡ get_or xs n x → drop n xs ≡ x ∷ drop (n + 1) xs
drop_next [] n x within is = absurd (omega (arith, within))
drop_next (y ∷ xs) zero x within is = ap (λ z. z ∷ xs) (sym is)
drop_next (y ∷ xs) (suc n) x within is = drop_next xs n x (omega (arith, within)) is ∙ ap (λ m. x ∷ drop m (y ∷ xs)) {x = suc (n + 1)} {y = suc n + 1} (omega arith)

-- the next entry of a walk
pub next_left : {X : Type 0} → (said : Brief → List ℤ → X) (words : List ℤ) (pages : List Marks) (page : Marks) (others : List Marks) (place : ℕ) (entry : Entry X) → pages ≡ page ∷ others → place < length page.1 →
    ((other : Entry X) → entry ≡ get_or (entries_in said words page) place other) → left_in place (seen_pages said words pages) ≡ entry ∷ left_in (place + 1) (seen_pages said words pages)
next_left {X} said words pages page others place entry is within read =
    let rest = flat_map (λ (es : List (Entry X)). es) (seen_pages said words others) in
    ap (λ ps. left_in place (seen_pages said words ps)) is
    ∙ ap (λ es. es ++ rest) (drop_next (entries_in said words page) place entry (omega (arith, within, length-map page.1 (entry_of said words))) (read entry))
    ∙ sym (ap (λ ps. entry ∷ left_in (place + 1) (seen_pages said words ps)) is)

-- ---- one more mark in a page

module _ {X : Type 0} (said : Brief → List ℤ → X) (most : ℕ) (words : List ℤ) where
  pub first_stays : (page : Marks) (place : ℕ) (mark : Mark) (key : List ℤ) → place ≤ length page.1 → page.0 ≡ first_key (entries_in said words page) → key_of words mark ≡ key →
      first_after place key page.0 ≡ first_key (map (entry_of said words) (add page.1 place mark))
  first_stays page zero mark key within first is = sym is
  first_stays (first, []) (suc place) mark key within is same = absurd (omega (arith, within))
  first_stays (first, (m ∷ marks)) (suc place) mark key within is same = is

  pub page_with : (page : Marks) (place : ℕ) (mark : Mark) (key : List ℤ) → place ≤ length page.1 → IsPage said most words page → IsWithin most words mark → key_of words mark ≡ key →
      IsPage said most words (first_after place key page.0, add page.1 place mark)
  page_with page place mark key within it one is = record { within = all_added (IsWithin most words) page.1 place mark it.within one; first = first_stays page place mark key within it.first is }

  pub no_page : IsPage said most words ([], [])
  no_page = record { within = tt; first = refl }

  -- a page that was read is the page at its number
  pub seen_read : (pages : List Marks) (n : ℕ) (page : Marks) → n < length pages → page ≡ get_or pages n page → entries_in said words page ≡ page_at (seen_pages said words pages) n
  seen_read pages n page within is = ap (entries_in said words) is ∙ sym (get_or-map (entries_in said words) pages n page [] within)

  pub page_held : (pages : List Marks) (n : ℕ) (page : Marks) → n < length pages → page ≡ get_or pages n page → AllByRecursion (IsPage said most words) pages → IsPage said most words page
  page_held pages n page within is all = subst (IsPage said most words) (sym is) (all_at (IsPage said most words) pages n page within all)

  pub as_many : (pages : List Marks) → length (seen_pages said words pages) ≡ length pages
  as_many pages = length-map pages (entries_in said words)

-- ---- the words of an entry, put behind all others

key_spelled : (key : List ℤ) (behind : List ℤ) → key_by (length key) (first_word key) (take (length key - 1) (other_words key ++ behind)) ≡ key
key_spelled [] behind = refl
key_spelled (first ∷ others) behind =
    let count : length (first ∷ others) - 1 ≡ length others = omega arith in
    ap (λ n. first ∷ take n (others ++ behind)) count ∙ ap (λ ks. first ∷ ks) (take-append_seam others behind)

others_counted : (key : List ℤ) → length (other_words key) ≡ length key - 1
others_counted [] = refl
others_counted (first ∷ others) = omega arith

-- ---- a mark that was read

module _ (items marks : List Mark) (n : ℕ) (mark : Mark) where
  pub mark_held_by : (P : Mark → Type 0) → items ≡ marks → mark ≡ get_or items n mark → n < length marks → AllByRecursion P marks → P mark
  mark_held_by P same is within all = subst P (sym (is ∙ ap (λ ms. get_or ms n mark) same)) (all_at P marks n mark within all)

pub mark_held : (most : ℕ) (words : List ℤ) (items marks : List Mark) (n : ℕ) (mark : Mark) → items ≡ marks → mark ≡ get_or items n mark → n < length marks → AllByRecursion (IsWithin most words) marks → IsWithin most words mark
mark_held most words items marks n mark = mark_held_by items marks n mark (IsWithin most words)

pub mark_read : {Y : Type 0} → (f : Mark → Y) (items marks : List Mark) (n : ℕ) (mark : Mark) (other : Y) → items ≡ marks → mark ≡ get_or items n mark → n < length marks → get_or (map f marks) n other ≡ f mark
mark_read f items marks n mark other same is within = get_or-map f marks n mark other within ∙ sym (ap f (is ∙ ap (λ ms. get_or ms n mark) same))

-- the first key of a page that was read is that of its entries
pub first_read : {X : Type 0} (said : Brief → List ℤ → X) (most : ℕ) (words : List ℤ) (pages : List Marks) (n : ℕ) (page : Marks) → n < length pages → page ≡ get_or pages n page → AllByRecursion (IsPage said most words) pages →
    page.0 ≡ first_key (page_at (seen_pages said words pages) n)
first_read said most words pages n page within is all = (page_held said most words pages n page within is all).first ∙ ap first_key (seen_read said most words pages n page within is)

-- ---- the words have grown, by those of one entry

module _ {X : Type 0} (said : Brief → List ℤ → X) (most : ℕ) (words now more : List ℤ) (grown : now ≡ words ++ more) where
  pub pages_grown : (pages : List Marks) → AllByRecursion (IsPage said most words) pages → seen_pages said now pages ≡ seen_pages said words pages
  pages_grown pages all = ap (λ ws. seen_pages said ws pages) grown ∙ pages_stay said most words more pages all

  pub held_grown : (pages : List Marks) → AllByRecursion (IsPage said most words) pages → AllByRecursion (IsPage said most now) pages
  held_grown pages all = subst (λ ws. AllByRecursion (IsPage said most ws) pages) (sym grown) (still_pages said most words more pages all)

one_less : (room each : ℕ) → 0 < room → (room - 1) * each + each ≡ room * each
one_less zero each some = absurd (omega (arith, some))
one_less (suc room) each some = ap (λ n. n * each + each) {x = suc room - 1} {y = room} (omega arith) ∙ sym (suc-mul room each)

-- room is there for the words of the others
pub room_left : (most before now places after room : ℕ) → before + room * (MAX_COMPONENTS + most) ≤ places → before + room * (MAX_COMPONENTS + most) < 2 ^ 32 → now ≤ before + (MAX_COMPONENTS + most) → places ≤ after → 0 < room →
    (now + (room - 1) * (MAX_COMPONENTS + most) ≤ after) × (now + (room - 1) * (MAX_COMPONENTS + most) < 2 ^ 32)
room_left most before now places after room enough few longer more some =
    let less = one_less room (MAX_COMPONENTS + most) some in
    (omega (arith, enough, longer, more, less), omega (arith, few, longer, less))

pub room_for_one : (most before places room : ℕ) → before + room * (MAX_COMPONENTS + most) ≤ places → before + room * (MAX_COMPONENTS + most) < 2 ^ 32 → 0 < room → (before + (MAX_COMPONENTS + most) ≤ places) × (before < 2 ^ 32)
room_for_one most before places room enough few some =
    let less = one_less room (MAX_COMPONENTS + most) some in
    (omega (arith, enough, less), omega (arith, few))

pub no_words : (words : List ℤ) → length words ≤ 0 → words ≡ []
no_words [] few = refl
no_words (word ∷ words) few = absurd (omega (arith, few))
