-- Where a key is in an ordered list, or where it would go.
use Rattle.std.proofs.Common.{◌≡◌, ℕ, zero, suc, ◌+◌, ◌-◌, ◌<◌, ◌≤◌, Bool, true, false, T, cond, ◌&&◌, List, [], ◌∷◌, length, get_or, slice_get, set, Some, None, refl, sym, ap, subst, ◌∙◌, arith}
use Rattle.std.specs.declared.cmp.Ordering.{Ordering}
use Rattle.std.specs.declared.cmp.Ordering.TheVariants.{Less, Equal, Greater}
use Rattle.std.specs.Ordering.{is_lt, is_eq, ordering_reverse}
use mathlib.Core.Bool.{false≢true}
use Rattle.std.specs.Option.{unwrap_or}
use Rattle.std.specs.Cmp.{IsTotalOrder, tied_back, alike_right}
use Rattle.std.specs.FinMap.{IsAntisymmetric, entries, find, from_entries, get-entries, get-from_entries, entries_sorted, put, is_sorted}
use Rattle.std.specs.FinMap.Entries.{below_all, by_order, same_entries}
use Rattle.std.specs.List.{insert, AllWithin, HoldsAt}
use Rattle.std.specs.List.Sorted.{IsSortedBy}

pub first : (a b : Bool) → T (a && b) → T a
first true b both = tt
first false b both = both

pub second : (a b : Bool) → T (a && b) → T b
second true b both = both
second false b both = absurd both

pub less : (r : Ordering) → T (is_lt r) → r ≡ Less
less Less is = refl
less Equal is = absurd is
less Greater is = absurd is

module _ {K : Type 0} {R : K → K → Ordering} (o : IsTotalOrder R) where
  pub turned : (x y : K) → R x y ≡ Less → R y x ≡ Greater
  turned x y is = o.antisymm y x ∙ ap ordering_reverse is

  pub turned_back : (x y : K) → R x y ≡ Greater → R y x ≡ Less
  turned_back x y is = o.antisymm y x ∙ ap ordering_reverse is

pub lesser : (r : Ordering) → is_lt r ≡ true → r ≡ Less
lesser Less is = refl
lesser Equal is = absurd (false≢true is)
lesser Greater is = absurd (false≢true is)

-- the last of a list is the last of its tail
last_behind : {X : Type 0} (x y : X) (xs : List X) (last : X) → slice_get (x ∷ y ∷ xs) (length (x ∷ y ∷ xs) - 1) ≡ Some last → slice_get (y ∷ xs) (length (y ∷ xs) - 1) ≡ Some last
last_behind x y xs last is =
    let all : length (x ∷ y ∷ xs) - 1 ≡ suc (length xs) = omega arith in
    let behind : length (y ∷ xs) - 1 ≡ length xs = omega arith in
    ap (λ n. slice_get (y ∷ xs) n) behind ∙ sym (ap (λ n. slice_get (x ∷ y ∷ xs) n) all) ∙ is

module _ {K X : Type 0} {R : K → K → Ordering} (o : IsTotalOrder R) where
  -- each later key is greater than the first
  pub below_each : (x : K) (es : List (K × X)) (at : ℕ) (d : K × X) → T (below_all R x es) → at < length es → R x (get_or es at d).0 ≡ Less
  below_each x [] at d below within = absurd (omega (arith, within))
  below_each x (e ∷ es) zero d below within = less (R x e.0) (first _ _ below)
  below_each x (e ∷ es) (suc at) d below within = below_each x es at d (second _ _ below) (omega (arith, within))

  -- no key is less than the one before it
  pub adjacent : (es : List (K × X)) → T (is_sorted R es) → IsSortedBy (λ a b. is_lt (R a.0 b.0)) es
  adjacent [] sorted k d low within = absurd (omega (arith, within))
  adjacent (e ∷ []) sorted k d low within = absurd (omega (arith, within))
  adjacent (e ∷ f ∷ es) sorted zero d low within = ap is_lt (turned o e.0 f.0 (less _ (first _ _ (first _ _ sorted))))
  adjacent (e ∷ f ∷ es) sorted (suc k) d low within =
      subst (λ n. is_lt (R (get_or (e ∷ f ∷ es) n d).0 (get_or (f ∷ es) k d).0) ≡ false) {x = suc (k + 1)} {y = suc k + 1} (omega arith)
      (adjacent (f ∷ es) (second (below_all R e.0 (f ∷ es)) _ sorted) k d (omega arith) (omega (arith, within)))

  -- a key that is at a place is found, with the value there
  pub found : (es : List (K × X)) (q : K) (at : ℕ) (d : K × X) → T (is_sorted R es) → at < length es → HoldsAt (λ e. R e.0 q ≡ Equal) es at → find R q es ≡ Some (get_or es at d).1
  found [] q at d sorted within here = absurd (omega (arith, within))
  found (e ∷ es) q zero d sorted within here = ap (λ r. cond (is_eq r) (Some e.1) (find R q es)) (tied_back o e.0 q (here d))
  found (e ∷ es) q (suc at) d sorted within here =
      let later : R e.0 q ≡ Less = sym (alike_right o (get_or es at d).0 q e.0 (here d)) ∙ below_each e.0 es at d (first _ _ sorted) (omega (arith, within)) in
      ap (λ r. cond (is_eq r) (Some e.1) (find R q es)) (turned o e.0 q later) ∙ found es q at d (second (below_all R e.0 es) _ sorted) (omega (arith, within)) here

  -- a key between the lesser keys and the greater ones is not found, and goes to that place
  pub gap : (es : List (K × X)) (q : K) (i : ℕ) → i ≤ length es → AllWithin (λ e. R e.0 q ≡ Less) es 0 i → AllWithin (λ e. R e.0 q ≡ Greater) es i (length es) → (find R q es ≡ None) × ((v : X) → put R q v es ≡ insert es i (q, v))
  gap [] q zero within lesser greater = (refl, λ v. refl)
  gap [] q (suc i) within lesser greater = absurd (omega (arith, within))
  gap (e ∷ es) q zero within lesser greater =
      let here : R q e.0 ≡ Less = turned_back o e.0 q (greater 0 e (omega arith) (omega arith)) in
      let rest = gap es q 0 (omega arith) (λ k d low high. absurd (omega (arith, high))) (λ k d low high. greater (suc k) d (omega arith) (omega (arith, high))) in
      (ap (λ r. cond (is_eq r) (Some e.1) (find R q es)) here ∙ rest.0, λ v. ap (λ r. by_order r ((q, v) ∷ e ∷ es) ((e.0, v) ∷ es) (e ∷ put R q v es)) here)
  gap (e ∷ es) q (suc i) within lesser greater =
      let here : R q e.0 ≡ Greater = turned o e.0 q (lesser 0 e (omega arith) (omega arith)) in
      let rest = gap es q i (omega (arith, within)) (λ k d low high. lesser (suc k) d (omega arith) (omega (arith, high))) (λ k d low high. greater (suc k) d (omega (arith, low)) (omega (arith, high))) in
      (ap (λ r. cond (is_eq r) (Some e.1) (find R q es)) here ∙ rest.0, λ v. ap (λ r. by_order r ((q, v) ∷ e ∷ es) ((e.0, v) ∷ es) (e ∷ put R q v es)) here ∙ ap (λ more. e ∷ more) (rest.1 v))

  -- if the last key is less, all keys are
  pub all_less : (es : List (K × X)) (q : K) (last : K × X) → T (is_sorted R es) → slice_get es (length es - 1) ≡ Some last → R last.0 q ≡ Less → AllWithin (λ e. R e.0 q ≡ Less) es 0 (length es)
  all_less [] q last sorted is below k d low high = absurd (omega (arith, high))
  all_less (e ∷ []) q last sorted is below zero d low high = subst (λ (x : K × X). R x.0 q ≡ Less) (sym (ap (λ o. unwrap_or o e) is)) below
  all_less (e ∷ []) q last sorted is below (suc k) d low high = absurd (omega (arith, high))
  all_less (e ∷ f ∷ es) q last sorted is below zero d low high =
      o.trans e.0 f.0 q (less _ (first _ _ (first _ _ sorted))) (all_less (f ∷ es) q last (second (below_all R e.0 (f ∷ es)) _ sorted) (last_behind e f es last is) below 0 f (omega arith) (omega arith))
  all_less (e ∷ f ∷ es) q last sorted is below (suc k) d low high =
      all_less (f ∷ es) q last (second (below_all R e.0 (f ∷ es)) _ sorted) (last_behind e f es last is) below k d (omega arith) (omega (arith, high))

  -- the map of an ordered list has that list as its entries
  pub listed : IsAntisymmetric R → (es : List (K × X)) → T (is_sorted R es) → entries (from_entries {R = R} es) ≡ es
  listed same es sorted =
      same_entries R o same (entries (from_entries es)) es (entries_sorted (from_entries es)) sorted (λ q. sym (get-entries (from_entries es) q) ∙ get-from_entries o es q)

  -- to write a value for a key that is at a place writes it there
  pub written : IsAntisymmetric R → (es : List (K × X)) (q : K) (at : ℕ) (v : X) → T (is_sorted R es) → at < length es → HoldsAt (λ e. R e.0 q ≡ Equal) es at → put R q v es ≡ set es at (q, v)
  written same [] q at v sorted within here = absurd (omega (arith, within))
  written same (e ∷ es) q zero v sorted within here =
      ap (λ r. by_order r ((q, v) ∷ e ∷ es) ((e.0, v) ∷ es) (e ∷ put R q v es)) (tied_back o e.0 q (here e)) ∙ ap (λ k. (k, v) ∷ es) (same e.0 q (here e))
  written same (e ∷ es) q (suc at) v sorted within here =
      let later : R e.0 q ≡ Less = sym (alike_right o (get_or es at e).0 q e.0 (here e)) ∙ below_each e.0 es at e (first _ _ sorted) (omega (arith, within)) in
      ap (λ r. by_order r ((q, v) ∷ e ∷ es) ((e.0, v) ∷ es) (e ∷ put R q v es)) (turned o e.0 q later)
      ∙ ap (λ more. e ∷ more) (written same es q at v (second (below_all R e.0 es) _ sorted) (omega (arith, within)) here)

  -- all keys up to a lesser one are less, and all from a greater one on are greater
  pub less_up_to : (es : List (K × X)) (q : K) (at : ℕ) → at < length es → T (is_sorted R es) → HoldsAt (λ e. R e.0 q ≡ Less) es at → AllWithin (λ e. R e.0 q ≡ Less) es 0 (suc at)
  less_up_to [] q at within sorted here k d low high = absurd (omega (arith, within))
  less_up_to (e ∷ es) q zero within sorted here zero d low high = here d
  less_up_to (e ∷ es) q zero within sorted here (suc k) d low high = absurd (omega (arith, high))
  less_up_to (e ∷ es) q (suc at) within sorted here zero d low high = o.trans e.0 (get_or es at d).0 q (below_each e.0 es at d (first _ _ sorted) (omega (arith, within))) (here d)
  less_up_to (e ∷ es) q (suc at) within sorted here (suc k) d low high = less_up_to es q at (omega (arith, within)) (second (below_all R e.0 es) _ sorted) here k d (omega arith) (omega (arith, high))

  pub greater_from : (es : List (K × X)) (q : K) (at : ℕ) → at < length es → T (is_sorted R es) → HoldsAt (λ e. R e.0 q ≡ Greater) es at → AllWithin (λ e. R e.0 q ≡ Greater) es at (length es)
  greater_from [] q at within sorted here k d low high = absurd (omega (arith, within))
  greater_from (e ∷ es) q zero within sorted here zero d low high = here d
  greater_from (e ∷ es) q zero within sorted here (suc k) d low high =
      turned o q (get_or es k d).0 (o.trans q e.0 (get_or es k d).0 (turned_back o e.0 q (here d)) (below_each e.0 es k d (first _ _ sorted) (omega (arith, high))))
  greater_from (e ∷ es) q (suc at) within sorted here zero d low high = absurd (omega (arith, low))
  greater_from (e ∷ es) q (suc at) within sorted here (suc k) d low high = greater_from es q at (omega (arith, within)) (second (below_all R e.0 es) _ sorted) here k d (omega (arith, low)) (omega (arith, high))
