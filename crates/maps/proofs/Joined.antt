-- A key among pages: it is found, and put, within the page for it.
use Rattle.std.proofs.Common.{◌≡◌, ◌∙◌, ap, sym, refl, subst, ℕ, zero, suc, ◌-◌, ◌<◌, ℤ, T, Bool, true, false, cond, ◌&&◌, List, [], ◌∷◌, ◌++◌, length, set, Some, None, arith, append-nil, append_assoc}
use mathlib.Core.Bool.{false≢true}
use Rattle.std.specs.declared.cmp.Ordering.{Ordering}
use Rattle.std.specs.declared.cmp.Ordering.TheVariants.{Less, Equal, Greater}
use Rattle.std.specs.Ordering.{is_lt, is_eq}
use Rattle.std.specs.Cmp.{tied_back, alike_right}
use Rattle.std.specs.FinMap.{find, put, is_sorted}
use Rattle.std.specs.FinMap.Entries.{below_all, by_order}
use Rattle.terms.specs.Key.{key_cmp}
use Rattle.maps.specs.Paged.{AreFilled, AreLess, Entry, IsPageFor, all_of, first_key, last_page, page_at}
use Rattle.maps.specs.PlaceOrder.{keys_total}
use Rattle.maps.proofs.Places.{first, second, less, turned, turned_back}

both : (a b : Bool) → T a → T b → T (a && b)
both true b p q = q
both false b p q = p

is_less : (r : Ordering) → r ≡ Less → T (is_lt r)
is_less r is = subst (λ o. T (is_lt o)) (sym is) tt

true_is : (b : Bool) → b ≡ true → T b
true_is b is = subst T (sym is) tt

-- what is less than a key that does not come after another one is less than that one
less_still : (x f q : List ℤ) → key_cmp x f ≡ Less → is_lt (key_cmp q f) ≡ false → key_cmp x q ≡ Less
less_still x f q is not_before =
    elim (key_cmp q f) as (λ r. key_cmp q f ≡ r → is_lt r ≡ false → key_cmp x q ≡ Less) [
      | Less ↦ λ at no. absurd (false≢true (sym no))
      | Equal ↦ λ at no. sym (alike_right keys_total f q x (tied_back keys_total q f at)) ∙ is
      | Greater ↦ λ at no. keys_total.trans x f q is (turned_back keys_total q f at)
    ] refl not_before

module _ {X : Type 0} where
  -- ---- two lists, one after the other

  pub below_front : (x : List ℤ) (xs ys : List (Entry X)) → T (below_all key_cmp x (xs ++ ys)) → T (below_all key_cmp x xs)
  below_front x [] ys below = tt
  below_front x (e ∷ xs) ys below = both _ _ (first _ _ below) (below_front x xs ys (second (is_lt (key_cmp x e.0)) _ below))

  pub below_rear : (x : List ℤ) (xs ys : List (Entry X)) → T (below_all key_cmp x (xs ++ ys)) → T (below_all key_cmp x ys)
  below_rear x [] ys below = below
  below_rear x (e ∷ xs) ys below = below_rear x xs ys (second (is_lt (key_cmp x e.0)) _ below)

  pub sorted_front : (xs ys : List (Entry X)) → T (is_sorted key_cmp (xs ++ ys)) → T (is_sorted key_cmp xs)
  sorted_front [] ys sorted = tt
  sorted_front (e ∷ xs) ys sorted = both _ _ (below_front e.0 xs ys (first _ _ sorted)) (sorted_front xs ys (second (below_all key_cmp e.0 (xs ++ ys)) _ sorted))

  pub sorted_rear : (xs ys : List (Entry X)) → T (is_sorted key_cmp (xs ++ ys)) → T (is_sorted key_cmp ys)
  sorted_rear [] ys sorted = sorted
  sorted_rear (e ∷ xs) ys sorted = sorted_rear xs ys (second (below_all key_cmp e.0 (xs ++ ys)) _ sorted)

  further_below : (x y : List ℤ) (es : List (Entry X)) → key_cmp x y ≡ Less → T (below_all key_cmp y es) → T (below_all key_cmp x es)
  further_below x y [] is below = tt
  further_below x y (e ∷ es) is below = both _ _ (is_less _ (keys_total.trans x y e.0 is (less _ (first _ _ below)))) (further_below x y es is (second (is_lt (key_cmp y e.0)) _ below))

  -- a key that is below the second list is found and put in the first
  find_below : (q : List ℤ) (ys : List (Entry X)) → T (below_all key_cmp q ys) → find key_cmp q ys ≡ None
  find_below q [] below = refl
  find_below q (e ∷ ys) below = ap (λ r. cond (is_eq r) (Some e.1) (find key_cmp q ys)) (less _ (first _ _ below)) ∙ find_below q ys (second (is_lt (key_cmp q e.0)) _ below)

  found_in_front : (q : List ℤ) (xs ys : List (Entry X)) → T (below_all key_cmp q ys) → find key_cmp q (xs ++ ys) ≡ find key_cmp q xs
  found_in_front q [] ys below = find_below q ys below
  found_in_front q (e ∷ xs) ys below = ap (cond (is_eq (key_cmp q e.0)) (Some e.1)) (found_in_front q xs ys below)

  put_in_front : (q : List ℤ) (v : X) (xs ys : List (Entry X)) → T (below_all key_cmp q ys) → put key_cmp q v (xs ++ ys) ≡ put key_cmp q v xs ++ ys
  put_in_front q v [] [] below = refl
  put_in_front q v [] (e ∷ ys) below = ap (λ r. by_order r ((q, v) ∷ e ∷ ys) ((e.0, v) ∷ ys) (e ∷ put key_cmp q v ys)) (less _ (first _ _ below))
  put_in_front q v (e ∷ xs) ys below =
      elim (key_cmp q e.0) as (λ r. by_order r ((q, v) ∷ e ∷ (xs ++ ys)) ((e.0, v) ∷ (xs ++ ys)) (e ∷ put key_cmp q v (xs ++ ys)) ≡ by_order r ((q, v) ∷ e ∷ xs) ((e.0, v) ∷ xs) (e ∷ put key_cmp q v xs) ++ ys) [
        | Less ↦ refl
        | Equal ↦ refl
        | Greater ↦ ap (λ es. e ∷ es) (put_in_front q v xs ys below)
      ]

  -- a key that is above the first list is found and put in the second
  pub found_in_rear : (q : List ℤ) (xs ys : List (Entry X)) → AreLess xs q → find key_cmp q (xs ++ ys) ≡ find key_cmp q ys
  found_in_rear q [] ys above = refl
  found_in_rear q (e ∷ xs) ys above = ap (λ r. cond (is_eq r) (Some e.1) (find key_cmp q (xs ++ ys))) (turned keys_total e.0 q above.0) ∙ found_in_rear q xs ys above.1

  pub put_in_rear : (q : List ℤ) (v : X) (xs ys : List (Entry X)) → AreLess xs q → put key_cmp q v (xs ++ ys) ≡ xs ++ put key_cmp q v ys
  put_in_rear q v [] ys above = refl
  put_in_rear q v (e ∷ xs) ys above =
      ap (λ r. by_order r ((q, v) ∷ e ∷ (xs ++ ys)) ((e.0, v) ∷ (xs ++ ys)) (e ∷ put key_cmp q v (xs ++ ys))) (turned keys_total e.0 q above.0) ∙ ap (λ es. e ∷ es) (put_in_rear q v xs ys above.1)

  -- ---- pages

  pub filled_rest : (page : List (Entry X)) (pages : List (List (Entry X))) → AreFilled (page ∷ pages) → AreFilled pages
  filled_rest page [] filled = tt
  filled_rest page (next ∷ pages) filled = filled.1

  pub filled_some : (pages : List (List (Entry X))) (n : ℕ) → AreFilled pages → n < length pages → 0 < length (page_at pages n)
  filled_some [] n filled within = absurd (omega (arith, within))
  filled_some (page ∷ []) zero filled within = filled
  filled_some (page ∷ []) (suc n) filled within = absurd (omega (arith, within))
  filled_some (page ∷ next ∷ pages) zero filled within = omega (arith, filled.0)
  filled_some (page ∷ next ∷ pages) (suc n) filled within = filled_some (next ∷ pages) n filled.1 (omega (arith, within))

  pub page_sorted : (pages : List (List (Entry X))) (n : ℕ) → T (is_sorted key_cmp (all_of pages)) → T (is_sorted key_cmp (page_at pages n))
  page_sorted [] n sorted = tt
  page_sorted (page ∷ pages) zero sorted = sorted_front page (all_of pages) sorted
  page_sorted (page ∷ pages) (suc n) sorted = page_sorted pages n (sorted_rear page (all_of pages) sorted)

  first_of : (x : List ℤ) (es : List (Entry X)) → 0 < length es → T (below_all key_cmp x es) → key_cmp x (first_key es) ≡ Less
  first_of x [] some below = absurd (omega (arith, some))
  first_of x (e ∷ es) some below = less _ (first _ _ below)

  first_below : (x : List ℤ) (pages : List (List (Entry X))) (n : ℕ) → n < length pages → 0 < length (page_at pages n) → T (below_all key_cmp x (all_of pages)) → key_cmp x (first_key (page_at pages n)) ≡ Less
  first_below x [] n within some below = absurd (omega (arith, within))
  first_below x (page ∷ pages) zero within some below = first_of x page some (below_front x page (all_of pages) below)
  first_below x (page ∷ pages) (suc n) within some below = first_below x pages n (omega (arith, within)) some (below_rear x page (all_of pages) below)

  -- the entries of a page are less than a key that does not come before the first key of a later page
  page_less : (q f : List ℤ) (page : List (Entry X)) (rest : List (Entry X)) → T (is_sorted key_cmp (page ++ rest)) → ((x : List ℤ) → T (below_all key_cmp x rest) → key_cmp x f ≡ Less) → is_lt (key_cmp q f) ≡ false → AreLess page q
  page_less q f [] rest sorted before not_before = tt
  page_less q f (e ∷ page) rest sorted before not_before =
      (less_still e.0 f q (before e.0 (below_rear e.0 page rest (first _ _ sorted))) not_before, page_less q f page rest (second (below_all key_cmp e.0 (page ++ rest)) _ sorted) before not_before)

  -- a key below the first key of the next page is below all that is after its own
  below_next : (q : List ℤ) (pages : List (List (Entry X))) → T (is_sorted key_cmp (all_of pages)) → AreFilled pages → (0 < length pages → is_lt (key_cmp q (first_key (page_at pages 0))) ≡ true) → T (below_all key_cmp q (all_of pages))
  below_next q [] sorted filled before = tt
  below_next q ([] ∷ pages) sorted filled before = absurd (omega (arith, filled_some ([] ∷ pages) 0 filled (omega arith)))
  below_next q ((e ∷ es) ∷ pages) sorted filled before =
      let here : T (is_lt (key_cmp q e.0)) = true_is _ (before (omega arith)) in
      both _ _ here (further_below q e.0 (es ++ all_of pages) (less _ here) (first _ _ sorted))

  -- a key is found, and put, within the page for it
  pub record IsAmid (pages : List (List (Entry X))) (q : List ℤ) (page : ℕ) : Type 0 where
    pub found : find key_cmp q (all_of pages) ≡ find key_cmp q (page_at pages page)
    pub goes : (v : X) → put key_cmp q v (all_of pages) ≡ all_of (set pages page (put key_cmp q v (page_at pages page)))

  pub amid : (pages : List (List (Entry X))) (q : List ℤ) (page : ℕ) → T (is_sorted key_cmp (all_of pages)) → AreFilled pages → IsPageFor pages q page → IsAmid pages q page
  amid [] q page sorted filled it = absurd (omega (arith, it.within))
  amid (here ∷ pages) q zero sorted filled it =
      let behind = below_next q pages (sorted_rear here (all_of pages) sorted) (filled_rest here pages filled) (λ some. it.up_to (omega (arith, some))) in
      record { found = found_in_front q here (all_of pages) behind; goes = λ v. put_in_front q v here (all_of pages) behind }
  amid (here ∷ pages) q (suc page) sorted filled it =
      let within : page < length pages = omega (arith, it.within) in
      let before = page_less q (first_key (page_at pages page)) here (all_of pages) sorted (λ x below. first_below x pages page within (filled_some pages page (filled_rest here pages filled) within) below) (it.from (omega arith)) in
      let rest = amid pages q page (sorted_rear here (all_of pages) sorted) (filled_rest here pages filled) (record { within = within; from = λ low. it.from (omega arith); up_to = λ more. it.up_to (omega (arith, more)) }) in
      record { found = found_in_rear q here (all_of pages) before ∙ rest.found; goes = λ v. put_in_rear q v here (all_of pages) before ∙ ap (λ es. here ++ es) (rest.goes v) }

  -- ---- the last page

  pub last_is : (pages : List (List (Entry X))) → page_at pages (length pages - 1) ≡ last_page pages
  last_is [] = refl
  last_is (page ∷ []) = refl
  last_is (page ∷ next ∷ pages) =
      let all : length (page ∷ next ∷ pages) - 1 ≡ suc (length pages) = omega arith in
      let rest : length (next ∷ pages) - 1 ≡ length pages = omega arith in
      ap (λ n. page_at (page ∷ next ∷ pages) n) all ∙ sym (ap (λ n. page_at (next ∷ pages) n) rest) ∙ last_is (next ∷ pages)

  less_front : (q : List ℤ) (xs ys : List (Entry X)) → AreLess xs q → AreLess ys q → AreLess (xs ++ ys) q
  less_front q [] ys front rear = rear
  less_front q (e ∷ xs) ys front rear = (front.0, less_front q xs ys front.1 rear)

  -- what is below a list, all of which is less than the key, is less than it too
  less_before : (q : List ℤ) (xs ys : List (Entry X)) → 0 < length ys → T (is_sorted key_cmp (xs ++ ys)) → AreLess ys q → AreLess xs q
  less_before q [] ys some sorted rear = tt
  less_before q (e ∷ xs) [] some sorted rear = absurd (omega (arith, some))
  less_before q (e ∷ xs) (y ∷ ys) some sorted rear =
      (keys_total.trans e.0 y.0 q (less _ (first _ _ (below_rear e.0 xs (y ∷ ys) (first _ _ sorted)))) rear.0, less_before q xs (y ∷ ys) some (second (below_all key_cmp e.0 (xs ++ (y ∷ ys))) _ sorted) rear)

  some_there : (pages : List (List (Entry X))) → AreFilled pages → 0 < length pages → 0 < length (all_of pages)
  some_there [] filled some = absurd (omega (arith, some))
  some_there ([] ∷ pages) filled some = absurd (omega (arith, filled_some ([] ∷ pages) 0 filled (omega arith)))
  some_there ((e ∷ es) ∷ pages) filled some = omega arith

  -- if all keys of the last page are less, all keys are
  pub all_less_by_last : (pages : List (List (Entry X))) (q : List ℤ) → T (is_sorted key_cmp (all_of pages)) → AreFilled pages → AreLess (last_page pages) q → AreLess (all_of pages) q
  all_less_by_last [] q sorted filled last = tt
  all_less_by_last (page ∷ []) q sorted filled last = less_front q page [] last tt
  all_less_by_last (page ∷ next ∷ pages) q sorted filled last =
      let rest = all_less_by_last (next ∷ pages) q (sorted_rear page (all_of (next ∷ pages)) sorted) filled.1 last in
      less_front q page (all_of (next ∷ pages)) (less_before q page (all_of (next ∷ pages)) (some_there (next ∷ pages) filled.1 (omega arith)) sorted rest) rest

  -- one more entry at the end of the last page, or in a page of its own, is one more at the end
  pub more_in_last : (pages : List (List (Entry X))) (e : Entry X) → 0 < length pages → all_of (set pages (length pages - 1) (last_page pages ++ e ∷ [])) ≡ all_of pages ++ e ∷ []
  more_in_last [] e some = absurd (omega (arith, some))
  more_in_last (page ∷ []) e some = append-nil _ ∙ sym (ap (λ es. es ++ e ∷ []) (append-nil page))
  more_in_last (page ∷ next ∷ pages) e some =
      let all : length (page ∷ next ∷ pages) - 1 ≡ suc (length pages) = omega arith in
      let rest : length (next ∷ pages) - 1 ≡ length pages = omega arith in
      ap (λ n. all_of (set (page ∷ next ∷ pages) n (last_page (next ∷ pages) ++ e ∷ []))) all
      ∙ sym (ap (λ n. page ++ all_of (set (next ∷ pages) n (last_page (next ∷ pages) ++ e ∷ []))) rest)
      ∙ ap (λ es. page ++ es) (more_in_last (next ∷ pages) e (omega arith)) ∙ sym (append_assoc page (all_of (next ∷ pages)) (e ∷ []))

  pub more_behind : (pages : List (List (Entry X))) (e : Entry X) → all_of (pages ++ (e ∷ []) ∷ []) ≡ all_of pages ++ e ∷ []
  more_behind [] e = refl
  more_behind (page ∷ pages) e = ap (λ es. page ++ es) (more_behind pages e) ∙ sym (append_assoc page (all_of pages) (e ∷ []))

  -- a key that is greater than all is in none, and goes to the end
  pub absent_above : (q : List ℤ) (es : List (Entry X)) → AreLess es q → find key_cmp q es ≡ None
  absent_above q es above = sym (ap (find key_cmp q) (append-nil es)) ∙ found_in_rear q es [] above

  pub goes_to_end : (q : List ℤ) (v : X) (es : List (Entry X)) → AreLess es q → put key_cmp q v es ≡ es ++ (q, v) ∷ []
  goes_to_end q v es above = sym (ap (put key_cmp q v) (append-nil es)) ∙ put_in_rear q v es [] above
