-- A list of entries that is sorted by their keys: what is found by a key is what the list holds.
use Rattle.std.proofs.Common.{◌≡◌, ◌∙◌, ap, refl, sym, subst, Bool, true, false, cond, T, List, [], ◌∷◌, get_or, map, Option, Some}
use Rattle.std.proofs.lemmas.List.Elements.{All-nil, All-cons, All-head, All-contains_itself, Contains-append_right}
use Rattle.std.specs.Cmp.{Equal-is, IsTotalOrder, tied_itself}
use Rattle.std.specs.FinMap.{IsAntisymmetric, find, is_sorted}
use Rattle.std.specs.FinMap.Entries.{below_all}
use Rattle.std.specs.List.{All, AllByRecursion, Contains}
use Rattle.std.specs.List.Sorted.{IsStrictlySortedBy}
use Rattle.std.specs.Option.{unwrap_or}
use Rattle.std.specs.Ordering.{eq_by_cmp, is_eq, is_lt, ordering_reverse}
use Rattle.std.specs.declared.cmp.Ordering.{Ordering}
use Rattle.std.specs.declared.cmp.Ordering.TheVariants.{Less}
use Rattle.machine.proofs.InPlaceOrder.{first, second, less}

module _ {K X : Type 0} (cmp : K → K → Ordering) where
  below_each : (key : K) (list : List (K × X)) → T (below_all cmp key list) → All (λ (other : K × X). cmp key other.0 ≡ Less) list
  below_each key [] below = All-nil (λ (other : K × X). cmp key other.0 ≡ Less)
  below_each key (entry ∷ list) below = All-cons (λ (other : K × X). cmp key other.0 ≡ Less) entry list (less (cmp key entry.0) (first _ _ below)) (below_each key list (second (is_lt (cmp key entry.0)) _ below))

  passed : IsTotalOrder cmp → (one other : K × X) (list : List (K × X)) → cmp one.0 other.0 ≡ Less → find cmp other.0 (one ∷ list) ≡ find cmp other.0 list
  passed total one other list below = ap (λ (o : Ordering). cond (is_eq o) (Some one.1) (find cmp other.0 list)) (total.antisymm other.0 one.0 ∙ ap ordering_reverse below)

  -- each entry is found by its key
  pub found : IsTotalOrder cmp → (list : List (K × X)) → T (is_sorted cmp list) → All (λ (entry : K × X). find cmp entry.0 list ≡ Some entry.1) list
  found total [] sorted = All-nil (λ (entry : K × X). find cmp entry.0 [] ≡ Some entry.1)
  found total (one ∷ list) sorted =
      let rest = found total list (second (below_all cmp one.0 list) _ sorted) in
      let behind = below_each one.0 list (first _ _ sorted) in
      All-cons (λ (entry : K × X). find cmp entry.0 (one ∷ list) ≡ Some entry.1) one list
      (ap (λ (o : Ordering). cond (is_eq o) (Some one.1) (find cmp one.0 list)) (tied_itself total one.0))
      (λ place other within. passed total one (get_or list place other) list (behind place other within) ∙ rest place other within)

  -- an entry that is found is in the list
  pub listed : IsAntisymmetric cmp → (list : List (K × X)) (key : K) (value : X) → find cmp key list ≡ Some value → Contains list (key, value)
  listed one_key [] key value is = absurd (cc)
  listed one_key (one ∷ list) key value is = at (eq_by_cmp cmp key one.0) refl (listed one_key list key value)
    where
      here : eq_by_cmp cmp key one.0 ≡ true → one ≡ (key, value)
      here tied = λ i. (sym (one_key key one.0 ((Equal-is (cmp key one.0)).0 tied)) i, ap (λ (o : Option X). unwrap_or o value) (ap (λ b. cond b (Some one.1) (find cmp key list)) (sym tied) ∙ is) i)

      at : (b : Bool) → eq_by_cmp cmp key one.0 ≡ b → (find cmp key list ≡ Some value → Contains list (key, value)) → Contains (one ∷ list) (key, value)
      at true tied rest = subst (Contains (one ∷ list)) (here tied) (All-head (Contains (one ∷ list)) one list (All-contains_itself (one ∷ list)))
      at false apart rest = Contains-append_right (one ∷ []) list (key, value) (rest (ap (λ b. cond b (Some one.1) (find cmp key list)) (sym apart) ∙ is))

  -- the keys of sorted entries are strictly sorted
  pub keys_rise : (list : List (K × X)) → T (is_sorted cmp list) → IsStrictlySortedBy cmp (map (λ entry. entry.0) list)
  unfolding IsStrictlySortedBy
  keys_rise [] sorted = tt
  keys_rise (one ∷ list) sorted = (all_below one.0 list (first _ _ sorted), keys_rise list (second (below_all cmp one.0 list) _ sorted))
    where
      all_below : (key : K) (list : List (K × X)) → T (below_all cmp key list) → AllByRecursion (λ other. cmp key other ≡ Less) (map (λ entry. entry.0) list)
      all_below key [] below = tt
      all_below key (entry ∷ list) below = (less (cmp key entry.0) (first _ _ below), all_below key list (second (is_lt (cmp key entry.0)) _ below))
