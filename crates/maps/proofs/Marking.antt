-- Pages whose entries carry marks: what is found there, and what is left after one more was marked.
use Rattle.std.proofs.Common.{◌≡◌, ◌≢◌, ◌∙◌, ap, sym, refl, subst, ◌⊎◌, inl, inr, ℕ, zero, suc, ◌+◌, ◌-◌, ◌^◌, ◌<◌, ◌≤◌, ◌==◌, ℤ, T, Bool, true, false, cond, ◌&&◌, List, [], ◌∷◌, ◌++◌, map, set, length, get_or, Option, Some, None, IfSome, IsSomeAnd, arith, length-append}
use mathlib.Core.Bool.{false≢true}
use Rattle.std.specs.Ordering.{is_lt, eq_by_cmp}
use Rattle.std.specs.Option.{option_map}
use Rattle.std.specs.FinMap.{find, from_entries, get, get-from_entries, is_sorted, put}
use Rattle.std.specs.FinMap.Entries.{below_all}
use Rattle.std.proofs.lemmas.Bool.{cases_lt}
use Rattle.std.proofs.lemmas.Cmp.{tied_itself}
use Rattle.std.proofs.lemmas.List.{map-append, get_or_append_left, get_or-append-add, set-append_left, set-append_right}
use Rattle.std.proofs.lemmas.Nat.{pow_pos}
use Rattle.std.proofs.lemmas.Nat.Bits.{bit_at_above, bit_at_ones, bit_at-zero}
use Rattle.terms.specs.Key.{key_cmp}
use Rattle.maps.specs.Marked.{AreAllMarked, AreMarks, AreUnmarked, AreWords, IsLeft, is_marked, marked_map, marked_pages, marked_there, with_mark, with_marks}
use Rattle.maps.specs.Paged.{Entry, IsInPage, all_of, page_at}
use Rattle.maps.specs.PlaceOrder.{keys_total, same_key}
use Rattle.maps.specs.declared.page.TheConstants.{PAGE}
use Rattle.maps.proofs.Places.{found, written}
use Rattle.maps.proofs.Written.{put_is_insert}

-- ---- an entry of a page among all entries

module _ {A : Type 0} where
  -- the place among all entries of a place of a page
  abbrev pub place_of : List (List A) → ℕ → ℕ → ℕ
  place_of [] n k = k
  place_of (page ∷ pages) zero k = k
  place_of (page ∷ pages) (suc n) k = length page + place_of pages n k

  within_all : (pages : List (List A)) (n k : ℕ) → n < length pages → k < length (page_at pages n) → place_of pages n k < length (all_of pages)
  within_all [] n k page place = absurd (omega (arith, page))
  within_all (here ∷ pages) zero k page place = omega (arith, place, length-append here (all_of pages))
  within_all (here ∷ pages) (suc n) k page place = omega (arith, within_all pages n k (omega (arith, page)) place, length-append here (all_of pages))

  read_all : (pages : List (List A)) (n k : ℕ) (other : A) → n < length pages → k < length (page_at pages n) → get_or (all_of pages) (place_of pages n k) other ≡ get_or (page_at pages n) k other
  read_all [] n k other page place = absurd (omega (arith, page))
  read_all (here ∷ pages) zero k other page place = get_or_append_left here (all_of pages) other k place
  read_all (here ∷ pages) (suc n) k other page place = get_or-append-add here (all_of pages) (place_of pages n k) other ∙ read_all pages n k other (omega (arith, page)) place

  set_all : (pages : List (List A)) (n k : ℕ) (new : A) → n < length pages → k < length (page_at pages n) → set (all_of pages) (place_of pages n k) new ≡ all_of (set pages n (set (page_at pages n) k new))
  set_all [] n k new page place = absurd (omega (arith, page))
  set_all (here ∷ pages) zero k new page place = set-append_left here (all_of pages) k new place
  set_all (here ∷ pages) (suc n) k new page place =
      set-append_right here (all_of pages) (length here) (length here + place_of pages n k) new refl (omega arith)
      ∙ ap (λ m. here ++ set (all_of pages) m new) {x = length here + place_of pages n k - length here} {y = place_of pages n k} (omega arith)
      ∙ ap (λ es. here ++ es) (set_all pages n k new (omega (arith, page)) place)

-- a word has a 1 only for entries of its page
place_left : (most place new : ℕ) → new < 2 ^ most → is_marked new place ≡ false → place < most
place_left most place new few left = at (cases_lt place most)
  where
    at : (place < most) ⊎ (most ≤ place) → place < most
    at (inl low) = low
    at (inr high) = absurd (false≢true (sym left ∙ ap (λ bit. bit == 0) (bit_at_above new most place few high)))

abbrev Flagged : Type 0 → Type 0
Flagged X = Entry (X × Bool)

module _ {X : Type 0} where
  abbrev bare : Flagged X → Entry X
  bare e = (e.0, e.1.0)

  abbrev stamp : Bool → X → X × Bool
  stamp b value = (value, b)

  abbrev stamped : Bool → Entry X → Flagged X
  stamped b e = (e.0, stamp b e.1)

  -- ---- without their marks they are the entries of the pages

  bare_page : (marked : ℕ → Bool) (es : List (Entry X)) → map bare (with_marks marked es) ≡ es
  bare_page marked [] = refl
  bare_page marked (e ∷ es) = ap (λ rest. e ∷ rest) (bare_page (λ k. marked (suc k)) es)

  bare_all : (pages : List (List (Entry X))) (words : List ℕ) → AreWords pages words → map bare (all_of (marked_pages pages words)) ≡ all_of pages
  bare_all [] [] are = refl
  bare_all [] (word ∷ words) are = absurd are
  bare_all (page ∷ pages) [] are = absurd are
  bare_all (page ∷ pages) (word ∷ words) are =
      map-append bare (with_marks (is_marked word) page) (all_of (marked_pages pages words)) ∙ (λ i. bare_page (is_marked word) page i ++ bare_all pages words are.2 i)

  find_bare : (q : List ℤ) (es : List (Flagged X)) → find key_cmp q (map bare es) ≡ option_map (λ e. e.0) (find key_cmp q es)
  find_bare q [] = refl
  find_bare q (e ∷ es) =
      ap (cond (eq_by_cmp key_cmp q e.0) (Some e.1.0)) (find_bare q es)
      ∙ elim (eq_by_cmp key_cmp q e.0) as (λ b. cond b (Some e.1.0) (option_map (λ e. e.0) (find key_cmp q es)) ≡ option_map (λ e. e.0) (cond b (Some e.1) (find key_cmp q es))) [ true ↦ refl | false ↦ refl ]

  below_bare : (x : List ℤ) (es : List (Flagged X)) → below_all key_cmp x (map bare es) ≡ below_all key_cmp x es
  below_bare x [] = refl
  below_bare x (e ∷ es) = ap (λ b. is_lt (key_cmp x e.0) && b) (below_bare x es)

  sorted_bare : (es : List (Flagged X)) → is_sorted key_cmp (map bare es) ≡ is_sorted key_cmp es
  sorted_bare [] = refl
  sorted_bare (e ∷ es) = λ i. below_bare e.0 es i && sorted_bare es i

  -- ---- if all marks are the same

  same_page : (b : Bool) (marked : ℕ → Bool) (es : List (Entry X)) → ((k : ℕ) → k < length es → marked k ≡ b) → with_marks marked es ≡ map (stamped b) es
  same_page b marked [] all = refl
  same_page b marked (e ∷ es) all = λ i. (e.0, (e.1, all 0 (omega arith) i)) ∷ same_page b (λ k. marked (suc k)) es (λ k low. all (suc k) (omega (arith, low))) i

  same_all : (b : Bool) (pages : List (List (Entry X))) (words : List ℕ) → AreWords pages words → ((n k : ℕ) → n < length pages → k < length (page_at pages n) → is_marked (get_or words n 0) k ≡ b) → all_of (marked_pages pages words) ≡ map (stamped b) (all_of pages)
  same_all b [] [] are all = refl
  same_all b [] (word ∷ words) are all = absurd are
  same_all b (page ∷ pages) [] are all = absurd are
  same_all b (page ∷ pages) (word ∷ words) are all =
      (λ i. same_page b (is_marked word) page (λ k low. all 0 k (omega arith) low) i ++ same_all b pages words are.2 (λ n k within low. all (suc n) k (omega (arith, within)) low) i)
      ∙ sym (map-append (stamped b) page (all_of pages))

  find_stamped : (b : Bool) (q : List ℤ) (es : List (Entry X)) → find key_cmp q (map (stamped b) es) ≡ option_map (stamp b) (find key_cmp q es)
  find_stamped b q [] = refl
  find_stamped b q (e ∷ es) =
      ap (cond (eq_by_cmp key_cmp q e.0) (Some (stamp b e.1))) (find_stamped b q es)
      ∙ elim (eq_by_cmp key_cmp q e.0) as (λ is. cond is (Some (stamp b e.1)) (option_map (stamp b) (find key_cmp q es)) ≡ option_map (stamp b) (cond is (Some e.1) (find key_cmp q es))) [ true ↦ refl | false ↦ refl ]

  pub get_stamped : (b : Bool) (pages : List (List (Entry X))) (words : List ℕ) → AreWords pages words → ((n k : ℕ) → n < length pages → k < length (page_at pages n) → is_marked (get_or words n 0) k ≡ b) →
      (q : List ℤ) → get (marked_map pages words) q ≡ option_map (stamp b) (get (from_entries {R = key_cmp} (all_of pages)) q)
  get_stamped b pages words are all q =
      get-from_entries keys_total (all_of (marked_pages pages words)) q ∙ ap (find key_cmp q) (same_all b pages words are all) ∙ find_stamped b q (all_of pages)
      ∙ sym (ap (option_map (stamp b)) (get-from_entries keys_total (all_of pages) q))

  -- ---- one page, and one entry of it

  read_marks : (marked : ℕ → Bool) (es : List (Entry X)) (k : ℕ) (e : Entry X) (other : Flagged X) → k < length es → get_or (with_marks marked es) k other ≡ ((get_or es k e).0, ((get_or es k e).1, marked k))
  read_marks marked [] k e other within = absurd (omega (arith, within))
  read_marks marked (first ∷ es) zero e other within = refl
  read_marks marked (first ∷ es) (suc k) e other within = read_marks (λ k. marked (suc k)) es k e other (omega (arith, within))

  set_marks : (old new : ℕ → Bool) (es : List (Entry X)) (k : ℕ) (e : Entry X) → k < length es → e ≡ get_or es k e → new k ≡ true → ((other : ℕ) → other < length es → other ≢ k → new other ≡ old other) →
      with_marks new es ≡ set (with_marks old es) k (e.0, (e.1, true))
  set_marks old new [] k e within is here others = absurd (omega (arith, within))
  set_marks old new (first ∷ es) zero e within is here others =
      λ i. ((sym is i).0, ((sym is i).1, here i)) ∷ same_marks (λ k. old (suc k)) (λ k. new (suc k)) es (λ k low. others (suc k) (omega (arith, low)) (omega arith)) i
    where
      same_marks : (old new : ℕ → Bool) (es : List (Entry X)) → ((k : ℕ) → k < length es → new k ≡ old k) → with_marks new es ≡ with_marks old es
      same_marks old new [] same = refl
      same_marks old new (e ∷ es) same = λ i. (e.0, (e.1, same 0 (omega arith) i)) ∷ same_marks (λ k. old (suc k)) (λ k. new (suc k)) es (λ k low. same (suc k) (omega (arith, low))) i
  set_marks old new (first ∷ es) (suc k) e within is here others =
      λ i. (first.0, (first.1, others 0 (omega arith) (omega arith) i)) ∷ set_marks (λ k. old (suc k)) (λ k. new (suc k)) es k e (omega (arith, within)) is here (λ other low differs. others (suc other) (omega (arith, low)) (λ same. differs (omega (arith, same)))) i

  marks_length : (marked : ℕ → Bool) (es : List (Entry X)) → length (with_marks marked es) ≡ length es
  marks_length marked [] = refl
  marks_length marked (e ∷ es) = ap suc (marks_length (λ k. marked (suc k)) es)

  -- ---- one word

  as_many : (pages : List (List (Entry X))) (words : List ℕ) → AreWords pages words → (length words ≡ length pages) × (length (marked_pages pages words) ≡ length pages)
  as_many [] [] are = (refl, refl)
  as_many [] (word ∷ words) are = absurd are
  as_many (page ∷ pages) [] are = absurd are
  as_many (page ∷ pages) (word ∷ words) are = let rest = as_many pages words are.2 in (ap suc rest.0, ap suc rest.1)

  -- the word of a page has no 1 but for its entries
  pub word_of : (pages : List (List (Entry X))) (words : List ℕ) (n : ℕ) → AreWords pages words → n < length pages → (length (page_at pages n) ≤ PAGE) × (get_or words n 0 < 2 ^ length (page_at pages n))
  word_of [] words n are within = absurd (omega (arith, within))
  word_of (page ∷ pages) [] n are within = absurd are
  word_of (page ∷ pages) (word ∷ words) zero are within = (are.0, are.1)
  word_of (page ∷ pages) (word ∷ words) (suc n) are within = word_of pages words n are.2 (omega (arith, within))

  page_marked : (pages : List (List (Entry X))) (words : List ℕ) (n : ℕ) → AreWords pages words → n < length pages → page_at (marked_pages pages words) n ≡ with_marks (is_marked (get_or words n 0)) (page_at pages n)
  page_marked [] words n are within = absurd (omega (arith, within))
  page_marked (page ∷ pages) [] n are within = absurd are
  page_marked (page ∷ pages) (word ∷ words) zero are within = refl
  page_marked (page ∷ pages) (word ∷ words) (suc n) are within = page_marked pages words n are.2 (omega (arith, within))

  set_word : (pages : List (List (Entry X))) (words : List ℕ) (n new : ℕ) → AreWords pages words → n < length pages → marked_pages pages (set words n new) ≡ set (marked_pages pages words) n (with_marks (is_marked new) (page_at pages n))
  set_word [] words n new are within = absurd (omega (arith, within))
  set_word (page ∷ pages) [] n new are within = absurd are
  set_word (page ∷ pages) (word ∷ words) zero new are within = refl
  set_word (page ∷ pages) (word ∷ words) (suc n) new are within = ap (λ rest. with_marks (is_marked word) page ∷ rest) (set_word pages words n new are.2 (omega (arith, within)))

  less_word : (pages : List (List (Entry X))) (words : List ℕ) (n new : ℕ) → AreWords pages words → n < length pages → new ≤ get_or words n 0 → AreWords pages (set words n new)
  less_word [] words n new are within less = absurd (omega (arith, within))
  less_word (page ∷ pages) [] n new are within less = absurd are
  less_word (page ∷ pages) (word ∷ words) zero new are within less = (are.0, omega (arith, are.1, less), are.2)
  less_word (page ∷ pages) (word ∷ words) (suc n) new are within less = (are.0, are.1, less_word pages words n new are.2 (omega (arith, within)) less)

  -- ---- an entry at a place of a page

  module _ (pages : List (List (Entry X))) (words : List ℕ) (are : AreMarks pages words) (page place : ℕ) (key : List ℤ) (value : X)
      (page_within : page < length pages) (place_within : place < length (page_at pages page)) (here : (other : Entry X) → get_or (page_at pages page) place other ≡ (key, value)) where
    abbrev all : List (Flagged X)
    all = all_of (marked_pages pages words)

    abbrev word : ℕ
    word = get_or words page 0

    sorted : T (is_sorted key_cmp all)
    sorted = subst T (sym (ap (is_sorted key_cmp) (bare_all pages words are.each)) ∙ sorted_bare all) are.sorted

    in_marked : page < length (marked_pages pages words)
    in_marked = omega (arith, page_within, (as_many pages words are.each).1)

    in_page : place < length (page_at (marked_pages pages words) page)
    in_page = omega (arith, place_within, ap length (page_marked pages words page are.each page_within), marks_length (is_marked word) (page_at pages page))

    read : (other : Flagged X) → get_or all (place_of (marked_pages pages words) page place) other ≡ (key, (value, is_marked word place))
    read other =
        read_all (marked_pages pages words) page place other in_marked in_page ∙ ap (λ es. get_or es place other) (page_marked pages words page are.each page_within)
        ∙ read_marks (is_marked word) (page_at pages page) place (key, value) other place_within ∙ (λ i. ((here (key, value) i).0, ((here (key, value) i).1, is_marked word place)))

    pub is_there : get (marked_map pages words) key ≡ Some (value, is_marked word place)
    is_there =
        let other : Flagged X = (key, (value, true)) in
        get-from_entries keys_total all key
        ∙ found keys_total all key (place_of (marked_pages pages words) page place) other sorted (within_all (marked_pages pages words) page place in_marked in_page) (λ d. ap (λ (e : Flagged X). key_cmp e.0 key) (read d) ∙ tied_itself keys_total key)
        ∙ ap (λ (e : Flagged X). Some e.1) (read other)

    module _ (new : ℕ) (marked : is_marked new place ≡ true) (others : (other : ℕ) → other < PAGE → other ≢ place → is_marked new other ≡ is_marked word other) (less : new ≤ word) where
      pub still : AreMarks pages (set words page new)
      still = record { sorted = are.sorted; each = less_word pages words page new are.each page_within less }

      pub is_marked_now : marked_map pages (set words page new) ≡ with_mark (marked_map pages words) key
      is_marked_now =
          let few = (word_of pages words page are.each page_within).0 in
          let entry = set_marks (is_marked word) (is_marked new) (page_at pages page) place (key, value) place_within (sym (here (key, value))) marked (λ other low differs. others other (omega (arith, low, few)) differs) in
          let list : all_of (marked_pages pages (set words page new)) ≡ put key_cmp key (value, true) all =
          ap all_of (set_word pages words page new are.each page_within ∙ ap (set (marked_pages pages words) page) (entry ∙ ap (λ es. set es place (key, (value, true))) (sym (page_marked pages words page are.each page_within))))
          ∙ sym (set_all (marked_pages pages words) page place (key, (value, true)) in_marked in_page)
          ∙ sym (written keys_total same_key all key (place_of (marked_pages pages words) page place) (value, true) sorted (within_all (marked_pages pages words) page place in_marked in_page) (λ d. ap (λ (e : Flagged X). key_cmp e.0 key) (read d) ∙ tied_itself keys_total key)) in
          put_is_insert all (all_of (marked_pages pages (set words page new))) key (value, true) list ∙ sym (ap (marked_there (marked_map pages words) key) is_there)

    pub is_left : is_marked word place ≡ false → IsLeft (marked_map pages words) key
    is_left unmarked = subst (λ (o : Option (X × Bool)). IsSomeAnd o (λ entry. entry.1 ≡ false)) (sym is_there) unmarked

  no_entry : (o : Option (X × Bool)) → option_map (λ e. e.0) o ≡ None → o ≡ None
  no_entry None is = refl
  no_entry (Some e) is = absurd (cc)

  -- a key that has no entry
  pub is_absent : (pages : List (List (Entry X))) (words : List ℕ) → AreMarks pages words → (key : List ℤ) → find key_cmp key (all_of pages) ≡ None → get (marked_map pages words) key ≡ None
  is_absent pages words are key none =
      get-from_entries keys_total (all_of (marked_pages pages words)) key
      ∙ no_entry (find key_cmp key (all_of (marked_pages pages words))) (sym (find_bare key (all_of (marked_pages pages words))) ∙ ap (find key_cmp key) (bare_all pages words are.each) ∙ none)

  -- ---- a place that a search found

  pub has_word : (pages : List (List (Entry X))) (words : List ℕ) (page : ℕ) → AreMarks pages words → page < length pages → page < length words
  has_word pages words page are within = omega (arith, within, (as_many pages words are.each).0)

  pub place_fits : (pages : List (List (Entry X))) (words : List ℕ) → AreMarks pages words → (key : List ℤ) (page place : ℕ) → IsInPage pages key page place → place < PAGE
  place_fits pages words are key page place it = omega (arith, it.place_within, (word_of pages words page are.each it.page_within).0)

  -- the entry there, if this is its value
  pub there : (pages : List (List (Entry X))) (key : List ℤ) (page place : ℕ) (value : X) → IsInPage pages key page place → ((other : Entry X) → value ≡ (get_or (page_at pages page) place other).1) → (other : Entry X) → get_or (page_at pages page) place other ≡ (key, value)
  there pages key page place value it is other = λ i. (it.key_there other i, sym (is other) i)

  -- ---- words of pages that have no marks, as many as there are so far

  abbrev pub AreFresh : List (List (Entry X)) → List ℕ → Type 0
  AreFresh pages words = (n : ℕ) → n < length words → (length (page_at pages n) ≤ PAGE) × (get_or words n 0 ≡ 2 ^ length (page_at pages n) - 1)

  fresh_words : (pages : List (List (Entry X))) (words : List ℕ) → length words ≡ length pages → AreFresh pages words → AreWords pages words
  fresh_words [] [] many fresh = tt
  fresh_words [] (first ∷ words) many fresh = absurd (omega (arith, many))
  fresh_words (page ∷ pages) [] many fresh = absurd (omega (arith, many))
  fresh_words (page ∷ pages) (first ∷ words) many fresh =
      let here = fresh 0 (omega arith) in (here.0, omega (arith, here.1, pow_pos (length page)), fresh_words pages words (omega (arith, many)) (λ n within. fresh (suc n) (omega (arith, within))))

  pub are_fresh : (pages : List (List (Entry X))) (words : List ℕ) → T (is_sorted key_cmp (all_of pages)) → length words ≡ length pages → AreFresh pages words → AreMarks pages words
  are_fresh pages words sorted many fresh = record { sorted = sorted; each = fresh_words pages words many fresh }

  pub none_marked : (pages : List (List (Entry X))) (words : List ℕ) → length words ≡ length pages → AreFresh pages words → AreUnmarked (from_entries {R = key_cmp} (all_of pages)) (marked_map pages words)
  none_marked pages words many fresh =
      get_stamped false pages words (fresh_words pages words many fresh)
      (λ n k within low. ap (λ w. is_marked w k) (fresh n (omega (arith, within, many))).1 ∙ ap (λ bit. bit == 0) (bit_at_ones (length (page_at pages n)) k low))

  -- ---- words without a 1

  marked_so : (o : Option X) → IfSome (option_map (stamp true) o) (λ entry. entry.1 ≡ true)
  marked_so None = tt
  marked_so (Some value) = refl

  pub all_marked : (pages : List (List (Entry X))) (words : List ℕ) → AreMarks pages words → ((n : ℕ) → n < length words → get_or words n 0 ≡ 0) → AreAllMarked (marked_map pages words)
  all_marked pages words are zeros key =
      subst (λ (o : Option (X × Bool)). IfSome o (λ entry. entry.1 ≡ true))
      (sym (get_stamped true pages words are.each (λ n k within low. ap (λ w. is_marked w k) (zeros n (omega (arith, within, (as_many pages words are.each).0))) ∙ ap (λ bit. bit == 0) (bit_at-zero k)) key))
      (marked_so (get (from_entries {R = key_cmp} (all_of pages)) key))

  -- ---- a place that has a 1

  pub left_within : (pages : List (List (Entry X))) (words : List ℕ) (page place : ℕ) → AreMarks pages words → page < length words → is_marked (get_or words page 0) place ≡ false → (page < length pages) × (place < length (page_at pages page))
  left_within pages words page place are within left =
      let there : page < length pages = omega (arith, within, (as_many pages words are.each).0) in (there, place_left (length (page_at pages page)) place (get_or words page 0) (word_of pages words page are.each there).1 left)

  abbrev entry_at : (es : List (Entry X)) (k : ℕ) → k < length es → Entry X
  entry_at [] k within = absurd (omega (arith, within))
  entry_at (e ∷ es) zero within = e
  entry_at (e ∷ es) (suc k) within = entry_at es k (omega (arith, within))

  entry_read : (es : List (Entry X)) (k : ℕ) (within : k < length es) (other : Entry X) → get_or es k other ≡ entry_at es k within
  entry_read [] k within other = absurd (omega (arith, within))
  entry_read (e ∷ es) zero within other = refl
  entry_read (e ∷ es) (suc k) within other = entry_read es k (omega (arith, within)) other

  pub first_left : (pages : List (List (Entry X))) (words : List ℕ) (page place : ℕ) (key : List ℤ) → AreMarks pages words → page < length words → is_marked (get_or words page 0) place ≡ false →
      ((other : Entry X) → key ≡ (get_or (page_at pages page) place other).0) → IsLeft (marked_map pages words) key
  first_left pages words page place key are within left is =
      let fits = left_within pages words page place are within left in
      let e = entry_at (page_at pages page) place fits.1 in
      let name : key ≡ e.0 = is e ∙ ap (λ (x : Entry X). x.0) (entry_read (page_at pages page) place fits.1 e) in
      is_left pages words are page place key e.1 fits.0 fits.1 (λ other. entry_read (page_at pages page) place fits.1 other ∙ (λ i. (sym name i, e.1))) left
