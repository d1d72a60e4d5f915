-- What a search within the page for a key says of all pages, and where a key goes that is greater than all.
use Rattle.std.proofs.Common.{◌≡◌, ◌∙◌, ap, sym, subst, ℕ, zero, suc, ◌-◌, ◌<◌, ◌≤◌, ℤ, T, List, [], ◌∷◌, ◌++◌, length, set, slice_get, Some, arith}
use Rattle.std.specs.declared.cmp.Ordering.TheVariants.{Less}
use Rattle.std.specs.List.{insert as add}
use Rattle.std.specs.FinMap.{is_sorted}
use Rattle.std.proofs.lemmas.List.Edits.{insert_end}
use Rattle.std.proofs.lemmas.List.Elements.{recursion_from_All}
use Rattle.terms.specs.Key.{key_cmp}
use Rattle.maps.specs.Keyed.{IsAt, IsGapFor}
use Rattle.maps.specs.Paged.{AreFilled, AreLess, Entry, GoesBehind, GoesInto, IsInPage, IsPageFor, all_of, last_page, page_at}
use Rattle.maps.specs.PlaceOrder.{keys_total}
use Rattle.maps.specs.declared.page.TheConstants.{HALF}
use Rattle.maps.proofs.Halves.{all_half_full}
use Rattle.maps.proofs.Joined.{absent_above, all_less_by_last, amid, goes_to_end, last_is, more_behind, more_in_last}
use Rattle.maps.proofs.Places.{all_less}

-- if the last key is less, all are
pub less_by_last : {X : Type 0} (es : List (Entry X)) (key : List ℤ) (last : Entry X) → T (is_sorted key_cmp es) → slice_get es (length es - 1) ≡ Some last → key_cmp last.0 key ≡ Less → AreLess es key
less_by_last es key last sorted is lesser = recursion_from_All (λ entry. key_cmp entry.0 key ≡ Less) es (λ k d within. all_less keys_total es key last sorted is lesser k d (omega arith) within)

-- and if all are less, so is the one at any place
pub less_at : {X : Type 0} (es : List (Entry X)) (key : List ℤ) (n : ℕ) (e : Entry X) → AreLess es key → slice_get es n ≡ Some e → key_cmp e.0 key ≡ Less
less_at {X} [] key n e all is = absurd (cc)
less_at {X} (first ∷ es) key zero e all is = let same : first ≡ e = cc in subst (λ (x : Entry X). key_cmp x.0 key ≡ Less) same all.0
less_at {X} (first ∷ es) key (suc n) e all is = less_at es key n e all.1 is

module _ {X : Type 0} (pages : List (List (Entry X))) (sorted : T (is_sorted key_cmp (all_of pages))) (filled : AreFilled pages) where
  pub is_in_page : (key : List ℤ) (page place : ℕ) → IsPageFor pages key page → IsAt (page_at pages page) key place → IsInPage pages key page place
  is_in_page key page place it at =
      let among = amid pages key page sorted filled it in
      record { page_within = it.within; place_within = at.within; key_there = at.key_there; found = λ other. among.found ∙ at.found other; written = λ v. among.goes v ∙ ap (λ es. all_of (set pages page es)) (at.written_there v) }

  pub goes_into_page : (key : List ℤ) (page place : ℕ) → IsPageFor pages key page → IsGapFor (page_at pages page) key place → GoesInto pages key page place
  goes_into_page key page place it at =
      let among = amid pages key page sorted filled it in
      record { page_within = it.within; place_within = at.within; absent = among.found ∙ at.absent; goes = λ v. among.goes v ∙ ap (λ es. all_of (set pages page es)) (at.goes_there v) }

  pub goes_into_last : (last place : ℕ) → 0 < length pages → last ≡ length pages - 1 → place ≡ length (page_at pages last) → (key : List ℤ) → AreLess (last_page pages) key → GoesInto pages key last place
  goes_into_last last place some is at key above =
      let all = all_less_by_last pages key sorted filled above in
      record {
        page_within = omega (arith, is, some);
        place_within = omega (arith, at);
        absent = absent_above key (all_of pages) all;
        goes = λ v.
            let here : add (page_at pages last) place (key, v) ≡ last_page pages ++ (key, v) ∷ [] =
            ap (λ n. add (page_at pages last) n (key, v)) at ∙ insert_end (page_at pages last) (key, v) ∙ ap (λ es. es ++ (key, v) ∷ []) (ap (λ n. page_at pages n) is ∙ last_is pages) in
            goes_to_end key v (all_of pages) all ∙ sym (more_in_last pages (key, v) some) ∙ sym (ap (λ es. all_of (set pages last es)) here ∙ ap (λ n. all_of (set pages n (last_page pages ++ (key, v) ∷ []))) is);
      }

  pub goes_behind : HALF ≤ length (last_page pages) → (key : List ℤ) → AreLess (last_page pages) key → GoesBehind pages key
  goes_behind full key above =
      let all = all_less_by_last pages key sorted filled above in
      record {
        absent = absent_above key (all_of pages) all;
        goes = λ v. goes_to_end key v (all_of pages) all ∙ sym (more_behind pages (key, v));
        half_full = all_half_full pages filled full;
      }
