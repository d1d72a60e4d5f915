-- The entries of several collections as one map.
use Rattle.std.proofs.Common.{◌≡◌, ◌≢◌, ◌⊎◌, ◌∙◌, ap, sym, refl, subst, ℕ, zero, suc, ◌+◌, ◌<◌, ℤ, T, Bool, true, false, cond, ◌&&◌, List, [], ◌∷◌, ◌++◌, map, set, length, get_or, slice_get, Option, Some, None, inl, inr, arith}
use Rattle.std.specs.declared.cmp.Ordering.{Ordering}
use Rattle.std.specs.declared.cmp.Ordering.TheVariants.{Less, Equal, Greater}
use Rattle.std.specs.Ordering.{is_lt, is_eq, eq_by_cmp, nat_cmp, ordering_then}
use Rattle.std.specs.Cmp.{nat_cmp_total, nat_cmp_is}
use Rattle.std.specs.FinMap.{FinMap, nat_cmp-IsAntisymmetric, entries, entries_sorted, find, from_entries, get, get-entries, get-from_entries, get-insert, insert, is_sorted, same_map}
use Rattle.std.specs.FinMap.Entries.{below_all}
use Rattle.std.proofs.lemmas.Bool.{cases_eq}
use Rattle.std.proofs.lemmas.Cmp.{tied_itself}
use Rattle.terms.specs.Key.{key_cmp}
use Rattle.maps.specs.Keyed.{Keyed}
use Rattle.maps.specs.Numbered.{Place, place_cmp, placed, all_from}
use Rattle.maps.specs.PlaceOrder.{keys_total, places_total, same_places}
use Rattle.maps.proofs.Places.{first, second, listed}
use Rattle.maps.specs.Paged.{Entry}

abbrev Placed : Type 0 → Type 0
Placed X = Place × X

-- the map that several collections make
abbrev pub held : {X : Type 0} → List (Keyed X) → FinMap place_cmp X
held maps = from_entries (all_from 0 maps)

-- the item that a collection has under a key, if there is such a collection
abbrev pub item_of : {X : Type 0} → Option (Keyed X) → List ℤ → Option X
item_of None key = None
item_of (Some m) key = get m.items key

-- `find` in two lists, one of which does not have the key
module _ {K X : Type 0} (R : K → K → Ordering) (q : K) where
  in_second : (xs ys : List (K × X)) → find R q xs ≡ None → find R q (xs ++ ys) ≡ find R q ys
  in_second [] ys none = refl
  in_second (x ∷ xs) ys none =
      elim (eq_by_cmp R q x.0) as (λ b. cond b (Some x.1) (find R q xs) ≡ None → cond b (Some x.1) (find R q (xs ++ ys)) ≡ find R q ys) [
        | true ↦ λ there. absurd (cc)
        | false ↦ λ rest. in_second xs ys rest
      ] none

  in_first : (xs ys : List (K × X)) → find R q ys ≡ None → find R q (xs ++ ys) ≡ find R q xs
  in_first [] ys none = none
  in_first (x ∷ xs) ys none = ap (cond (eq_by_cmp R q x.0) (Some x.1)) (in_first xs ys none)

-- the number of a collection decides
by_number_same : (a b : Place) → a.0 ≡ b.0 → place_cmp a b ≡ key_cmp a.1 b.1
by_number_same a b same = ap (λ r. ordering_then r (key_cmp a.1 b.1)) (ap (nat_cmp a.0) (sym same) ∙ tied_itself nat_cmp_total a.0)

by_number_less : (a b : Place) → a.0 < b.0 → place_cmp a b ≡ Less
by_number_less a b lower = ap (λ r. ordering_then r (key_cmp a.1 b.1)) (sym (nat_cmp_is a.0 b.0 Less lower))

apart : (r s : Ordering) → r ≢ Equal → is_eq (ordering_then r s) ≡ false
apart Less s differs = refl
apart Equal s differs = absurd (differs refl)
apart Greater s differs = refl

by_number_apart : (a b : Place) → a.0 ≢ b.0 → eq_by_cmp place_cmp a b ≡ false
by_number_apart a b differs = apart (nat_cmp a.0 b.0) (key_cmp a.1 b.1) (λ tie. differs (nat_cmp-IsAntisymmetric _ _ tie))

-- in the collection with its number, a place is found by its key
find_same : {X : Type 0} → (number : ℕ) (a : Place) → a.0 ≡ number → (es : List (Entry X)) → find place_cmp a (map (placed number) es) ≡ find key_cmp a.1 es
find_same number a same [] = refl
find_same number a same (e ∷ es) =
    ap (λ r. cond (is_eq r) (Some e.1) (find place_cmp a (map (placed number) es))) (by_number_same a (placed number e).0 same)
    ∙ ap (cond (eq_by_cmp key_cmp a.1 e.0) (Some e.1)) (find_same number a same es)

find_other : {X : Type 0} → (number : ℕ) (a : Place) → a.0 ≢ number → (es : List (Entry X)) → find place_cmp a (map (placed number) es) ≡ None
find_other number a differs [] = refl
find_other number a differs (e ∷ es) =
    ap (λ b. cond b (Some e.1) (find place_cmp a (map (placed number) es))) (by_number_apart a (placed number e).0 differs) ∙ find_other number a differs es

find_below : {X : Type 0} → (start : ℕ) (maps : List (Keyed X)) (a : Place) → a.0 < start → find place_cmp a (all_from start maps) ≡ None
find_below start [] a lower = refl
find_below start (m ∷ maps) a lower =
    in_second place_cmp a (map (placed start) (entries m.items)) (all_from (suc start) maps) (find_other start a (λ same. omega (arith, same, lower)) (entries m.items))
    ∙ find_below (suc start) maps a (omega (arith, lower))

find_at : {X : Type 0} → (start n : ℕ) (maps : List (Keyed X)) (a : Place) → a.0 ≡ start + n → find place_cmp a (all_from start maps) ≡ item_of (slice_get maps n) a.1
find_at start n [] a is = refl
find_at start zero (m ∷ maps) a is =
    in_first place_cmp a (map (placed start) (entries m.items)) (all_from (suc start) maps) (find_below (suc start) maps a (omega (arith, is)))
    ∙ find_same start a (omega (arith, is)) (entries m.items) ∙ sym (get-entries m.items a.1)
find_at start (suc n) (m ∷ maps) a is =
    in_second place_cmp a (map (placed start) (entries m.items)) (all_from (suc start) maps) (find_other start a (λ same. omega (arith, same, is)) (entries m.items))
    ∙ find_at (suc start) n maps a (omega (arith, is))

-- the item at an address is the item that its collection has for its key
pub item_held : {X : Type 0} → (maps : List (Keyed X)) (a : Place) → get (held maps) a ≡ item_of (slice_get maps a.0) a.1
item_held maps a = get-from_entries places_total (all_from 0 maps) a ∙ find_at 0 a.0 maps a (omega arith)

-- what is at a place, and what is there after a write
pub read_at : {X : Type 0} → (maps : List (Keyed X)) (n : ℕ) (m : Keyed X) → n < length maps → m ≡ get_or maps n m → slice_get maps n ≡ Some m
read_at [] n m within is = absurd (omega (arith, within))
read_at (first ∷ maps) zero m within is = ap Some (sym is)
read_at (first ∷ maps) (suc n) m within is = read_at maps n m (omega (arith, within)) is

written_here : {X : Type 0} → (maps : List (Keyed X)) (n : ℕ) (m : Keyed X) → n < length maps → slice_get (set maps n m) n ≡ Some m
written_here [] n m within = absurd (omega (arith, within))
written_here (first ∷ maps) zero m within = refl
written_here (first ∷ maps) (suc n) m within = written_here maps n m (omega (arith, within))

written_elsewhere : {X : Type 0} → (maps : List (Keyed X)) (n other : ℕ) (m : Keyed X) → other ≢ n → slice_get (set maps n m) other ≡ slice_get maps other
written_elsewhere [] n other m differs = refl
written_elsewhere (first ∷ maps) zero zero m differs = absurd (differs refl)
written_elsewhere (first ∷ maps) zero (suc other) m differs = refl
written_elsewhere (first ∷ maps) (suc n) zero m differs = refl
written_elsewhere (first ∷ maps) (suc n) (suc other) m differs = written_elsewhere maps n other m (λ same. differs (ap suc same))

module _ {X : Type 0} (maps : List (Keyed X)) (number : ℕ) (old new : Keyed X) (within : number < length maps) (is : old ≡ get_or maps number old) where
  -- if the items of a collection are as they were, so are all items
  pub kept_at : new.items ≡ old.items → held (set maps number new) ≡ held maps
  kept_at same = same_map places_total same_places _ _ (λ q. item_held (set maps number new) q ∙ at q (cases_eq q.0 number) ∙ sym (item_held maps q))
    where
      at : (q : Place) → (q.0 ≡ number) ⊎ (q.0 ≢ number) → item_of (slice_get (set maps number new) q.0) q.1 ≡ item_of (slice_get maps q.0) q.1
      at q (inl here) =
          ap (λ m. item_of (slice_get (set maps number new) m) q.1) here ∙ ap (λ o. item_of o q.1) (written_here maps number new within)
          ∙ ap (λ items. get items q.1) same ∙ sym (ap (λ m. item_of (slice_get maps m) q.1) here ∙ ap (λ o. item_of o q.1) (read_at maps number old within is))
      at q (inr other) = ap (λ o. item_of o q.1) (written_elsewhere maps number q.0 new other)

  -- one more item in a collection is one more item at its address
  pub added_at : (key : List ℤ) (item : X) → new.items ≡ insert old.items key item → held (set maps number new) ≡ insert (held maps) (number, key) item
  added_at key item same =
      same_map places_total same_places _ _ (λ q.
      item_held (set maps number new) q ∙ at q (cases_eq q.0 number)
      ∙ sym (get-insert places_total (held maps) address item q ∙ ap (cond (eq_by_cmp place_cmp q address) (Some item)) (item_held maps q)))
    where
      address : Place
      address = (number, key)

      at : (q : Place) → (q.0 ≡ number) ⊎ (q.0 ≢ number) → item_of (slice_get (set maps number new) q.0) q.1 ≡ cond (eq_by_cmp place_cmp q address) (Some item) (item_of (slice_get maps q.0) q.1)
      at q (inl here) =
          ap (λ m. item_of (slice_get (set maps number new) m) q.1) here ∙ ap (λ o. item_of o q.1) (written_here maps number new within)
          ∙ ap (λ items. get items q.1) same ∙ get-insert keys_total old.items key item q.1
          ∙ ap (λ r. cond (is_eq r) (Some item) (get old.items q.1)) (sym (by_number_same q address here))
          ∙ ap (cond (eq_by_cmp place_cmp q address) (Some item)) (sym (ap (λ m. item_of (slice_get maps m) q.1) here ∙ ap (λ o. item_of o q.1) (read_at maps number old within is)))
      at q (inr other) =
          ap (λ o. item_of o q.1) (written_elsewhere maps number q.0 new other)
          ∙ sym (ap (λ b. cond b (Some item) (item_of (slice_get maps q.0) q.1)) (by_number_apart q address other))

-- The entries are in the order of their addresses.

both : (a b : Bool) → T a → T b → T (a && b)
both true b p q = q
both false b p q = p

below_both : {X : Type 0} → (a : Place) (xs ys : List (Placed X)) → T (below_all place_cmp a xs) → T (below_all place_cmp a ys) → T (below_all place_cmp a (xs ++ ys))
below_both a [] ys low high = high
below_both a (x ∷ xs) ys low high = both _ _ (first _ _ low) (below_both a xs ys (second (is_lt (place_cmp a x.0)) _ low) high)

below_keys : {X : Type 0} → (number : ℕ) (a : Place) → a.0 ≡ number → (es : List (Entry X)) → T (below_all key_cmp a.1 es) → T (below_all place_cmp a (map (placed number) es))
below_keys number a is [] below = tt
below_keys number a is (e ∷ es) below =
    both _ _ (subst (λ r. T (is_lt r)) (sym (by_number_same a (placed number e).0 is)) (first _ _ below)) (below_keys number a is es (second (is_lt (key_cmp a.1 e.0)) _ below))

below_number : {X : Type 0} → (number : ℕ) (a : Place) → a.0 < number → (es : List (Entry X)) → T (below_all place_cmp a (map (placed number) es))
below_number number a lower [] = tt
below_number number a lower (e ∷ es) = both _ _ (subst (λ r. T (is_lt r)) (sym (by_number_less a (placed number e).0 lower)) tt) (below_number number a lower es)

below_later : {X : Type 0} → (start : ℕ) (maps : List (Keyed X)) (a : Place) → a.0 < start → T (below_all place_cmp a (all_from start maps))
below_later start [] a lower = tt
below_later start (m ∷ maps) a lower =
    below_both a (map (placed start) (entries m.items)) (all_from (suc start) maps) (below_number start a lower (entries m.items)) (below_later (suc start) maps a (omega (arith, lower)))

sorted_front : {X : Type 0} → (start : ℕ) (es : List (Entry X)) (maps : List (Keyed X)) → T (is_sorted key_cmp es) → T (is_sorted place_cmp (all_from (suc start) maps)) → T (is_sorted place_cmp (map (placed start) es ++ all_from (suc start) maps))
sorted_front start [] maps keys rest = rest
sorted_front start (e ∷ es) maps keys rest =
    both _ _
    (below_both (placed start e).0 (map (placed start) es) (all_from (suc start) maps) (below_keys start (placed start e).0 refl es (first _ _ keys)) (below_later (suc start) maps (placed start e).0 (omega arith)))
    (sorted_front start es maps (second (below_all key_cmp e.0 es) _ keys) rest)

sorted_all : {X : Type 0} → (start : ℕ) (maps : List (Keyed X)) → T (is_sorted place_cmp (all_from start maps))
sorted_all start [] = tt
sorted_all start (m ∷ maps) = sorted_front start (entries m.items) maps (entries_sorted m.items) (sorted_all (suc start) maps)

-- so they are the entries of the map
pub in_place_order : {X : Type 0} → (maps : List (Keyed X)) → entries (held maps) ≡ all_from 0 maps
in_place_order maps = listed places_total same_places (all_from 0 maps) (sorted_all 0 maps)
