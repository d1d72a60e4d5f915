-- A list in the order of its places: what is found among the entries of one collection, and the names of all entries.
use Rattle.std.proofs.Common.{◌≡◌, ◌∙◌, ap, sym, refl, ℕ, ◌==◌, ℤ, T, Bool, true, false, cond, ◌&&◌, ◌||◌, List, [], ◌∷◌, map, Option, Some, None, option_map, is_some}
use Rattle.std.specs.declared.cmp.Ordering.{Ordering}
use Rattle.std.specs.declared.cmp.Ordering.TheVariants.{Less, Equal, Greater}
use Rattle.std.specs.List.{list_any, AllByRecursion}
use Rattle.std.specs.List.Sorted.{IsStrictlySortedBy}
use Rattle.std.specs.Ordering.{is_lt, is_eq, eq_by_cmp}
use Rattle.std.specs.Cmp.{Equal-is}
use Rattle.std.specs.FinMap.{find, is_sorted}
use Rattle.std.specs.FinMap.Entries.{below_all}
use Rattle.terms.specs.Name.{addr_cmp}
use Rattle.terms.specs.declared.name.Addr.{Addr}
use Rattle.terms.specs.declared.producer.Producer.{Producer}
use Rattle.maps.specs.Numbered.{Place, place_cmp, of_number}
use Rattle.maps.specs.PlaceOrder.{same_places}
use Rattle.items.specs.Held.{place, address_at}

abbrev Entry : Type 0
Entry = ℤ × Producer

pub first : (a b : Bool) → T (a && b) → T a
first true b p = tt
first false b p = p

pub second : (a b : Bool) → T (a && b) → T b
second true b p = p
second false b p = absurd p

both : (a b : Bool) → T a → T b → T (a && b)
both true b p q = q
both false b p q = p

pub less : (o : Ordering) → T (is_lt o) → o ≡ Less
less Less p = refl
less Equal p = absurd p
less Greater p = absurd p

-- ---- the entries of one collection, each address with its value

abbrev pub told_of : List (Place × Entry) → List (Addr × ℤ)
told_of list = map (λ (entry : Addr × Entry). (entry.0, entry.1.0)) (map (λ entry. (address_at entry.0, entry.1)) list)

-- the value of an entry, if it is of the collection
abbrev pub value_of : Bool → Option Entry → Option ℤ
value_of its o = option_map (λ it. it.0) (cond its o None)

no_value : (b : Bool) → None ≡ value_of b None
no_value true = refl
no_value false = refl

module _ (number : ℕ) where
  below_first :
      (q : Place) (e : Place × Entry) (rest : List (Place × Entry)) (b : Bool) → T (is_lt (place_cmp q e.0)) → T (below_all addr_cmp (address_at q) (told_of rest)) →
      T (below_all addr_cmp (address_at q) (told_of (cond b (e ∷ rest) rest)))
  below_first q e rest true low below = both (is_lt (place_cmp q e.0)) _ low below
  below_first q e rest false low below = below

  below_its : (q : Place) (es : List (Place × Entry)) → T (below_all place_cmp q es) → T (below_all addr_cmp (address_at q) (told_of (of_number number es)))
  below_its q [] below = tt
  below_its q (e ∷ es) below =
      below_first q e (of_number number es) (e.0.0 == number) (first _ (below_all place_cmp q es) below) (below_its q es (second (is_lt (place_cmp q e.0)) _ below))

  sorted_first :
      (e : Place × Entry) (rest : List (Place × Entry)) (b : Bool) → T (below_all addr_cmp (address_at e.0) (told_of rest)) → T (is_sorted addr_cmp (told_of rest)) →
      T (is_sorted addr_cmp (told_of (cond b (e ∷ rest) rest)))
  sorted_first e rest true below sorted = both (below_all addr_cmp (address_at e.0) (told_of rest)) _ below sorted
  sorted_first e rest false below sorted = sorted

  pub its_rise : (es : List (Place × Entry)) → T (is_sorted place_cmp es) → T (is_sorted addr_cmp (told_of (of_number number es)))
  its_rise [] sorted = tt
  its_rise (e ∷ es) sorted =
      sorted_first e (of_number number es) (e.0.0 == number) (below_its e.0 es (first _ (is_sorted place_cmp es) sorted)) (its_rise es (second (below_all place_cmp e.0 es) _ sorted))

  module _ (e : Place × Entry) (es : List (Place × Entry)) (a : Addr) (others : find addr_cmp a (told_of (of_number number es)) ≡ value_of (a.collection.0 == number) (find place_cmp (place a) es)) where
    abbrev with_first : Bool → Option ℤ
    with_first b = find addr_cmp a (told_of (cond b (e ∷ of_number number es) (of_number number es)))

    here : eq_by_cmp place_cmp (place a) e.0 ≡ true → (b : Bool) → (a.collection.0 == number) ≡ b → with_first b ≡ value_of b (Some e.1)
    here same true its = ap (λ t. cond t (Some e.1.0) (find addr_cmp a (told_of (of_number number es)))) same
    here same false other = others ∙ ap (λ b. value_of b (find place_cmp (place a) es)) other

    elsewhere : eq_by_cmp place_cmp (place a) e.0 ≡ false → (b : Bool) → with_first b ≡ find addr_cmp a (told_of (of_number number es))
    elsewhere apart true = ap (λ t. cond t (Some e.1.0) (find addr_cmp a (told_of (of_number number es)))) apart
    elsewhere apart false = refl

    at : (t : Bool) → eq_by_cmp place_cmp (place a) e.0 ≡ t → with_first (e.0.0 == number) ≡ value_of (a.collection.0 == number) (cond t (Some e.1) (find place_cmp (place a) es))
    at true same =
        ap (λ (q : Place). with_first (q.0 == number)) (sym (same_places (place a) e.0 ((Equal-is (place_cmp (place a) e.0)).0 same))) ∙ here same (a.collection.0 == number) refl
    at false apart = elsewhere apart (e.0.0 == number) ∙ others

  -- an address of the collection has the value that it has among all entries, and any other address has none
  pub its_found : (es : List (Place × Entry)) (a : Addr) → find addr_cmp a (told_of (of_number number es)) ≡ value_of (a.collection.0 == number) (find place_cmp (place a) es)
  its_found [] a = no_value (a.collection.0 == number)
  its_found (e ∷ es) a = at e es a (its_found es a) (eq_by_cmp place_cmp (place a) e.0) refl

-- ---- the names of all entries

module _ {N X : Type 0} (cmp : N → N → Ordering) (name : Place → N) (place_of : N → Place) (same : (n : N) (q : Place) → cmp n (name q) ≡ place_cmp (place_of n) q) (back : (q : Place) → place_of (name q) ≡ q) where
  abbrev names : List (Place × X) → List N
  names es = map (λ e. name e.0) es

  each_below : (q : Place) (es : List (Place × X)) → T (below_all place_cmp q es) → AllByRecursion (λ n. cmp (name q) n ≡ Less) (names es)
  each_below q [] below = tt
  each_below q (e ∷ es) below = (
    same (name q) e.0 ∙ ap (λ p. place_cmp p e.0) (back q) ∙ less (place_cmp q e.0) (first (is_lt (place_cmp q e.0)) (below_all place_cmp q es) below),
    each_below q es (second (is_lt (place_cmp q e.0)) (below_all place_cmp q es) below),
  )

  pub names_rise : (es : List (Place × X)) → T (is_sorted place_cmp es) → IsStrictlySortedBy cmp (names es)
  unfolding IsStrictlySortedBy
  names_rise [] sorted = tt
  names_rise (e ∷ es) sorted = (each_below e.0 es (first (below_all place_cmp e.0 es) (is_sorted place_cmp es) sorted), names_rise es (second (below_all place_cmp e.0 es) (is_sorted place_cmp es) sorted))

  some_either : (b : Bool) (it : X) (rest : Option X) → (b || is_some rest) ≡ is_some (cond b (Some it) rest)
  some_either true it rest = refl
  some_either false it rest = refl

  pub named : (es : List (Place × X)) (n : N) → list_any (eq_by_cmp cmp n) (names es) ≡ is_some (find place_cmp (place_of n) es)
  named [] n = refl
  named (e ∷ es) n =
      ap (λ r. is_eq r || list_any (eq_by_cmp cmp n) (names es)) (same n e.0) ∙ ap (λ b. eq_by_cmp place_cmp (place_of n) e.0 || b) (named es n)
      ∙ some_either (eq_by_cmp place_cmp (place_of n) e.0) e.1 (find place_cmp (place_of n) es)
