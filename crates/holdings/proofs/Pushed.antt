-- A list whose elements are put into a finite map, one after another.
use Rattle.std.proofs.Common.{◌≡◌, ◌∙◌, ap, sym, refl, subst, T, Bool, true, false, cond, ◌&&◌, List, [], ◌∷◌, ◌++◌, map, Some, None}
use Rattle.std.proofs.lemmas.List.{map-append}
use Rattle.std.specs.declared.cmp.Ordering.{Ordering}
use Rattle.std.specs.declared.cmp.Ordering.TheVariants.{Less, Equal, Greater}
use Rattle.std.specs.Ordering.{is_lt, is_eq}
use Rattle.std.specs.FinMap.{FinMap, entries, entries_sorted, find, from_entries, from_entries_push, get, get-entries, get-from_entries, insert, is_sorted, same_map}
use Rattle.std.specs.FinMap.Entries.{below_all, same_entries}
use Rattle.terms.specs.declared.name.Inst.{Inst}
use Rattle.terms.specs.Name.{inst_cmp}
use Rattle.codec.specs.Entries.{Item, MarkedTag, item_cmp, marked_cmp, Rises}
use Rattle.maps.specs.Numbered.{Place, place_cmp}
use Rattle.maps.specs.PlaceOrder.{places_total, same_places}
use Rattle.holdings.specs.Listing.{items_of, tags_of, insts_of}
use Rattle.holdings.specs.Holdings.{item_entry, tag_entry, done_entry}
use Rattle.holdings.proofs.Listed.{first, second, less}

both : (a b : Bool) → T a → T b → T (a && b)
both true b p q = q
both false b p q = p

is_less : (r : Ordering) → r ≡ Less → T (is_lt r)
is_less r is = subst (λ o. T (is_lt o)) (sym is) tt

module _ {E X : Type 0} (cmp : E → E → Ordering) (entry : E → Place × X) (same : (a b : E) → cmp a b ≡ place_cmp (entry a).0 (entry b).0) where
  further : (p q : Place) (es : List (Place × X)) → place_cmp p q ≡ Less → T (below_all place_cmp q es) → T (below_all place_cmp p es)
  further p q [] is below = tt
  further p q (e ∷ es) is below = both _ _ (is_less _ (places_total.trans p q e.0 is (less _ (first _ _ below)))) (further p q es is (second (is_lt (place_cmp q e.0)) _ below))

  below_rest : (x : E) (xs : List E) → Rises cmp (x ∷ xs) → T (below_all place_cmp (entry x).0 (map entry xs))
  below_rest x [] rises = tt
  below_rest x (y ∷ xs) rises =
      let is = sym (same x y) ∙ rises.0 in
      both _ _ (is_less _ is) (further (entry x).0 (entry y).0 (map entry xs) is (below_rest y xs rises.1))

  rest_rises : (x : E) (xs : List E) → Rises cmp (x ∷ xs) → Rises cmp xs
  rest_rises x [] rises = tt
  rest_rises x (y ∷ xs) rises = rises.1

  -- the entries of a list that rises are in order
  pub in_order : (xs : List E) → Rises cmp xs → T (is_sorted place_cmp (map entry xs))
  in_order [] rises = tt
  in_order (x ∷ xs) rises = both _ _ (below_rest x xs rises) (in_order xs (rest_rises x xs rises))

  -- so the map made of them has just these entries
  pub entries_back : (xs : List E) → Rises cmp xs → entries (from_entries {R = place_cmp} (map entry xs)) ≡ map entry xs
  entries_back xs rises =
      same_entries place_cmp places_total same_places (entries (from_entries {R = place_cmp} (map entry xs))) (map entry xs) (entries_sorted (from_entries {R = place_cmp} (map entry xs))) (in_order xs rises)
      (λ q. sym (get-entries (from_entries {R = place_cmp} (map entry xs)) q) ∙ get-from_entries places_total (map entry xs) q)

-- an entry whose key is there already changes nothing
module _ {X : Type 0} (k : Place) (v : X) where
  among_others : (es : List (Place × X)) (q : Place) → is_eq (place_cmp q k) ≡ false → find place_cmp q (es ++ (k, v) ∷ []) ≡ find place_cmp q es
  among_others [] q other = rw other refl
  among_others (e ∷ es) q other = ap (cond (is_eq (place_cmp q e.0)) (Some e.1)) (among_others es q other)

  found_before : (es : List (Place × X)) → (find place_cmp k es ≡ None → ⊥) → find place_cmp k (es ++ (k, v) ∷ []) ≡ find place_cmp k es
  found_before [] there = absurd (there refl)
  found_before (e ∷ es) there = by_first (is_eq (place_cmp k e.0)) (found_before es) there
    where
      by_first : (tie : Bool) → ((find place_cmp k es ≡ None → ⊥) → find place_cmp k (es ++ (k, v) ∷ []) ≡ find place_cmp k es) → (cond tie (Some e.1) (find place_cmp k es) ≡ None → ⊥)
          → cond tie (Some e.1) (find place_cmp k (es ++ (k, v) ∷ [])) ≡ cond tie (Some e.1) (find place_cmp k es)
      by_first true later there = refl
      by_first false later there = later there

  same_finds : (es : List (Place × X)) → (find place_cmp k es ≡ None → ⊥) → (q : Place) → find place_cmp q es ≡ find place_cmp q (es ++ (k, v) ∷ [])
  same_finds es there q = by_tie (place_cmp q k) refl
    where
      by_tie : (r : Ordering) → place_cmp q k ≡ r → find place_cmp q es ≡ find place_cmp q (es ++ (k, v) ∷ [])
      by_tie Less is = sym (among_others es q (ap is_eq is))
      by_tie Equal is = sym (ap (λ p. find place_cmp p (es ++ (k, v) ∷ [])) (same_places q k is) ∙ found_before es there ∙ ap (λ p. find place_cmp p es) (sym (same_places q k is)))
      by_tie Greater is = sym (among_others es q (ap is_eq is))

module _ {E X : Type 0} (entry : E → Place × X) (front : List E) (x : E) where
  abbrev held : FinMap place_cmp X
  held = from_entries (map entry front)

  one_more : map entry front ++ entry x ∷ [] ≡ map entry (front ++ x ∷ [])
  one_more = sym (map-append entry front (x ∷ []))

  -- an element whose name is new is put
  pub put_new : get held (entry x).0 ≡ None → insert held (entry x).0 (entry x).1 ≡ from_entries (map entry (front ++ x ∷ []))
  put_new none =
      sym (from_entries_push places_total same_places (map entry front) (entry x).0 (entry x).1 (sym (get-from_entries places_total (map entry front) (entry x).0) ∙ none))
      ∙ ap (λ es. from_entries es) one_more

  -- another one is there
  pub put_again : (get held (entry x).0 ≡ None → ⊥) → held ≡ from_entries (map entry (front ++ x ∷ []))
  put_again there =
      same_map places_total same_places held (from_entries (map entry front ++ entry x ∷ []))
      (λ q. get-from_entries places_total (map entry front) q
      ∙ same_finds (entry x).0 (entry x).1 (map entry front) (λ none. there (get-from_entries places_total (map entry front) (entry x).0 ∙ none)) q
      ∙ sym (get-from_entries places_total (map entry front ++ entry x ∷ []) q))
      ∙ ap (λ es. from_entries es) one_more

-- ---- the lists of an image

pub items_back : (list : List Item) → Rises item_cmp list → items_of (entries (from_entries {R = place_cmp} (map item_entry list))) ≡ list
items_back list rises = ap items_of (entries_back item_cmp item_entry (λ a b. refl) list rises) ∙ back list
  where
    back : (list : List Item) → items_of (map item_entry list) ≡ list
    back [] = refl
    back (it ∷ list) = ap (λ rest. it ∷ rest) (back list)

pub tags_back : (list : List MarkedTag) → Rises marked_cmp list → tags_of (entries (from_entries {R = place_cmp} (map tag_entry list))) ≡ list
tags_back list rises = ap tags_of (entries_back marked_cmp tag_entry (λ a b. refl) list rises) ∙ back list
  where
    back : (list : List MarkedTag) → tags_of (map tag_entry list) ≡ list
    back [] = refl
    back (marked ∷ list) = ap (λ rest. marked ∷ rest) (back list)

pub done_back : (list : List Inst) → Rises inst_cmp list → insts_of (entries (from_entries {R = place_cmp} (map done_entry list))) ≡ list
done_back list rises = ap insts_of (entries_back inst_cmp done_entry (λ a b. refl) list rises) ∙ back list
  where
    back : (list : List Inst) → insts_of (map done_entry list) ≡ list
    back [] = refl
    back (instance ∷ list) = ap (λ rest. instance ∷ rest) (back list)
