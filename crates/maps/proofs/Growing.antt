-- Pages with one more entry, or with one that is rewritten, are kept as pages are.
use Rattle.std.proofs.Common.{◌≡◌, ◌∙◌, ap, sym, subst, ℕ, suc, ◌+◌, ◌-◌, ◌<◌, ◌≤◌, ℤ, T, List, [], ◌∷◌, ◌++◌, length, set, cond, is_some, None, arith, length-append}
use Rattle.std.specs.List.{AllByRecursion}
use Rattle.std.specs.List.{insert as add}
use Rattle.std.specs.FinMap.{find, put, is_sorted}
use Rattle.std.specs.FinMap.Entries.{is_sorted-put, length-put}
use Rattle.std.proofs.lemmas.List.{length-set}
use Rattle.std.proofs.lemmas.List.Edits.{length-insert}
use Rattle.terms.specs.Key.{key_cmp}
use Rattle.maps.specs.Marks.{Marks}
use Rattle.maps.specs.Paged.{AreFilled, Entry, GoesBehind, GoesInto, IsInPage, all_of, page_at}
use Rattle.maps.specs.PagesKept.{AreKept, IsEnough}
use Rattle.maps.specs.PlaceOrder.{keys_total}
use Rattle.maps.specs.declared.page.TheConstants.{HALF}
use Rattle.maps.proofs.Halves.{all_divided, enough_in_new, enough_in_page, filled_behind, filled_count, filled_divided, filled_set, has_spare}

module _ {X : Type 0} (pages : List (List (Entry X))) (spare : List Marks) (places count room : ℕ) (kept : AreKept pages spare places count room) where
  -- one more entry
  more : (new : List (List (Entry X))) (left : List Marks) (now : ℕ) (key : List ℤ) (value : X) → 0 < room → find key_cmp key (all_of pages) ≡ None → all_of new ≡ put key_cmp key value (all_of pages) →
      AreFilled new → AllByRecursion (λ page. page ≡ ([], [])) left → length new + length left ≤ now → IsEnough (length new) (length left) (count + 1) (room - 1) → AreKept new left now (count + 1) (room - 1)
  more new left now key value some absent is filled empty fits enough =
      let longer : length (put key_cmp key value (all_of pages)) ≡ length (all_of pages) + 1 = length-put key_cmp keys_total key value (all_of pages) kept.sorted ∙ ap (λ o. cond (is_some o) (length (all_of pages)) (length (all_of pages) + 1)) absent in
      record {
        sorted = subst (λ es. T (is_sorted key_cmp es)) (sym is) (is_sorted-put key_cmp keys_total key value (all_of pages) kept.sorted);
        filled = filled;
        empty = empty;
        fits = fits;
        counted = omega (arith, kept.counted, longer, ap length is);
        most = omega (arith, kept.most, some);
        enough = enough;
      }

  -- there is a spare page, if there is room
  pub some_spare : 0 < room → 0 < length spare
  some_spare some = has_spare (length pages) (length spare) count room kept.enough some (omega (arith, kept.counted, filled_count pages kept.filled))

  module _ (key : List ℤ) (value : X) (page place : ℕ) (goes : GoesInto pages key page place) where
    longer_page : length (page_at pages page) ≤ length (add (page_at pages page) place (key, value))
    longer_page = omega (arith, length-insert (page_at pages page) place (key, value) goes.place_within)

    -- into a page that is not full
    pub kept_in_page : (here : List (Entry X)) → here ≡ add (page_at pages page) place (key, value) → 0 < room → AreKept (set pages page here) spare places (count + 1) (room - 1)
    kept_in_page here is some =
        more (set pages page here) spare places key value some goes.absent (ap (λ p. all_of (set pages page p)) is ∙ sym (goes.goes value))
        (filled_set pages page here goes.page_within (omega (arith, longer_page, ap length is)) kept.filled) kept.empty (omega (arith, kept.fits, length-set pages page here))
        (subst (λ n. IsEnough n (length spare) (count + 1) (room - 1)) (sym (length-set pages page here)) (enough_in_page (length pages) (length spare) count room kept.enough some))

    -- into a page that is divided
    pub all_of_divided : (lower upper : List (Entry X)) → lower ++ upper ≡ add (page_at pages page) place (key, value) → all_of (add (set pages page lower) (suc page) upper) ≡ put key_cmp key value (all_of pages)
    all_of_divided lower upper is = all_divided pages page lower upper goes.page_within ∙ ap (λ p. all_of (set pages page p)) is ∙ sym (goes.goes value)

    pub kept_divided : (lower upper : List (Entry X)) (left : List Marks) (now : ℕ) → lower ++ upper ≡ add (page_at pages page) place (key, value) → HALF ≤ length lower → HALF ≤ length upper →
        AllByRecursion (λ page. page ≡ ([], [])) left → length left + 1 ≡ length spare → places ≤ now → 0 < room → AreKept (add (set pages page lower) (suc page) upper) left now (count + 1) (room - 1)
    kept_divided lower upper left now is low high empty one more_places some =
        let longer : length (add (set pages page lower) (suc page) upper) ≡ length pages + 1 = length-insert (set pages page lower) (suc page) upper (omega (arith, goes.page_within, length-set pages page lower)) ∙ ap (λ n. n + 1) (length-set pages page lower) in
        more (add (set pages page lower) (suc page) upper) left now key value some goes.absent (all_of_divided lower upper is) (filled_divided pages page lower upper goes.page_within low high kept.filled) empty
        (omega (arith, kept.fits, longer, one, more_places))
        (subst (λ n. IsEnough n (length left) (count + 1) (room - 1)) (sym longer) (enough_in_new (length pages) (length spare) (length left) count room kept.enough some one))

  -- into a page of its own
  pub kept_behind : (key : List ℤ) (value : X) (left : List Marks) (now : ℕ) → GoesBehind pages key → AllByRecursion (λ page. page ≡ ([], [])) left → length left + 1 ≡ length spare → places ≤ now → 0 < room →
      AreKept (pages ++ ((key, value) ∷ []) ∷ []) left now (count + 1) (room - 1)
  kept_behind key value left now goes empty one more_places some =
      let longer : length (pages ++ ((key, value) ∷ []) ∷ []) ≡ length pages + 1 = length-append pages (((key, value) ∷ []) ∷ []) in
      more (pages ++ ((key, value) ∷ []) ∷ []) left now key value some goes.absent (sym (goes.goes value)) (filled_behind pages (key, value) goes.half_full) empty (omega (arith, kept.fits, longer, one, more_places))
      (subst (λ n. IsEnough n (length left) (count + 1) (room - 1)) (sym longer) (enough_in_new (length pages) (length spare) (length left) count room kept.enough some one))

  -- another value for a key
  pub kept_rewritten : (key : List ℤ) (value : X) (page place : ℕ) (here : List (Entry X)) → IsInPage pages key page place → here ≡ set (page_at pages page) place (key, value) → AreKept (set pages page here) spare places count room
  kept_rewritten key value page place here at is =
      let now : all_of (set pages page here) ≡ put key_cmp key value (all_of pages) = ap (λ p. all_of (set pages page p)) is ∙ sym (at.written value) in
      let same : length (put key_cmp key value (all_of pages)) ≡ length (all_of pages) = length-put key_cmp keys_total key value (all_of pages) kept.sorted ∙ ap (λ o. cond (is_some o) (length (all_of pages)) (length (all_of pages) + 1)) (at.found (key, value)) in
      record {
        sorted = subst (λ es. T (is_sorted key_cmp es)) (sym now) (is_sorted-put key_cmp keys_total key value (all_of pages) kept.sorted);
        filled = filled_set pages page here at.page_within (omega (arith, ap length is, length-set (page_at pages page) place (key, value))) kept.filled;
        empty = kept.empty;
        fits = omega (arith, kept.fits, length-set pages page here);
        counted = omega (arith, kept.counted, same, ap length now);
        most = kept.most;
        enough = subst (λ n. IsEnough n (length spare) count room) (sym (length-set pages page here)) kept.enough;
      }
