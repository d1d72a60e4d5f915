-- What holds of each entry of a finite map, and so of what is listed of it, holds at each place where the map has a value.
use Rattle.std.proofs.Common.{◌≡◌, ◌↔◌, ℤ, T, Bool, true, false, cond, ◌&&◌, List, [], ◌∷◌, map, Some, None, refl, sym, ap, subst, ◌∙◌}
use Rattle.std.specs.Bool.{⊤}
use Rattle.std.specs.declared.cmp.Ordering.{Ordering}
use Rattle.std.specs.declared.cmp.Ordering.TheVariants.{Less, Equal, Greater}
use Rattle.std.specs.Cmp.{Equal-is}
use Rattle.std.specs.FinMap.{FinMap, entries, entries_sorted, find, get, get-entries, is_sorted}
use Rattle.std.specs.FinMap.Entries.{below_all}
use Rattle.std.specs.List.{AllByRecursion}
use Rattle.std.specs.Option.{unwrap_or}
use Rattle.std.specs.Ordering.{eq_by_cmp, is_eq, is_lt}
use Rattle.std.proofs.lemmas.Cmp.{tied_itself}
use Rattle.terms.specs.declared.name.Addr.{Addr}
use Rattle.terms.specs.declared.producer.Producer.{Producer}
use Rattle.codec.specs.Entries.{Item, MarkedTag}
use Rattle.terms.specs.declared.name.Inst.{Inst}
use Rattle.maps.specs.Numbered.{Place, place_cmp}
use Rattle.maps.specs.PlaceOrder.{places_total, same_places}
use Rattle.holdings.specs.Listing.{items_of, tags_of, insts_of, as_listed, inst_at}
use Rattle.instances.specs.Known.{tag_at}
use Rattle.items.specs.Held.{address_at}

first : (a b : Bool) → T (a && b) → T a
first true b p = tt
first false b p = p

second : (a b : Bool) → T (a && b) → T b
second true b p = p
second false b p = absurd p

less : (o : Ordering) → T (is_lt o) → o ≡ Less
less Less p = refl
less Equal p = absurd p
less Greater p = absurd p

pub same_value : {X : Type 0} (x y : X) → Some x ≡ Some y → x ≡ y
same_value x y is = ap (λ o. unwrap_or o x) is

no_value : {X : Type 0} (x : X) → None ≡ Some x → ⊥
no_value x is = cc

module _ {X : Type 0} where
  same_key : (k : Place) (e : Place × X) → eq_by_cmp place_cmp k e.0 ≡ true → k ≡ e.0
  same_key k e is = same_places k e.0 ((Equal-is (place_cmp k e.0)).0 is)

  -- a place below all others is not among them
  not_among : (k : Place) (es : List (Place × X)) → T (below_all place_cmp k es) → find place_cmp k es ≡ None
  not_among k [] below = refl
  not_among k (e ∷ es) below =
      ap (λ o. cond (is_eq o) (Some e.1) (find place_cmp k es)) (less (place_cmp k e.0) (first _ _ below)) ∙ not_among k es (second (is_lt (place_cmp k e.0)) _ below)

  module _ (P : Place × X → Type 0) where
    found_in : (es : List (Place × X)) → AllByRecursion P es → (k : Place) (x : X) → find place_cmp k es ≡ Some x → P (k, x)
    found_in [] all k x is = absurd (no_value x is)
    found_in (e ∷ es) all k x is = at (eq_by_cmp place_cmp k e.0) refl is (found_in es all.1 k x)
      where
        at : (b : Bool) → eq_by_cmp place_cmp k e.0 ≡ b → cond b (Some e.1) (find place_cmp k es) ≡ Some x → (find place_cmp k es ≡ Some x → P (k, x)) → P (k, x)
        at true same there later = subst P (λ i. (sym (same_key k e same) i, same_value e.1 x there i)) all.0
        at false apart there later = later there

    each_found : (es : List (Place × X)) → T (is_sorted place_cmp es) → ((k : Place) (x : X) → find place_cmp k es ≡ Some x → P (k, x)) → AllByRecursion P es
    each_found [] sorted all = tt
    each_found (e ∷ es) sorted all = (
      all e.0 e.1 (ap (λ o. cond (is_eq o) (Some e.1) (find place_cmp e.0 es)) (tied_itself places_total e.0)),
      each_found es (second (below_all place_cmp e.0 es) _ sorted) (λ k x is. all k x (later k x is (eq_by_cmp place_cmp k e.0) refl)),
    )
      where
        later : (k : Place) (x : X) → find place_cmp k es ≡ Some x → (b : Bool) → eq_by_cmp place_cmp k e.0 ≡ b → find place_cmp k (e ∷ es) ≡ Some x
        later k x is true same =
            absurd (no_value x (sym (not_among e.0 es (first (below_all place_cmp e.0 es) _ sorted)) ∙ ap (λ (q : Place). find place_cmp q es) (sym (same_key k e same)) ∙ is))
        later k x is false apart = ap (λ b. cond b (Some e.1) (find place_cmp k es)) apart ∙ is

    each_entry : (m : FinMap place_cmp X) → AllByRecursion P (entries m) ↔ ((k : Place) (x : X) → get m k ≡ Some x → P (k, x))
    each_entry m = (
      λ all k x is. found_in (entries m) all k x (sym (get-entries m k) ∙ is),
      λ all. each_found (entries m) (entries_sorted m) (λ k x is. all k x (get-entries m k ∙ is)),
    )

each_mapped : {X Y : Type 0} (P : Y → Type 0) (f : X → Y) (xs : List X) → AllByRecursion (λ x. P (f x)) xs ↔ AllByRecursion P (map f xs)
each_mapped P f [] = (λ all. tt, λ all. tt)
each_mapped P f (x ∷ xs) = let rest = each_mapped P f xs in (λ all. (all.0, rest.0 all.1), λ all. (all.0, rest.1 all.1))

pub each_tag : (P : MarkedTag → Type 0) (m : FinMap place_cmp Bool) → AllByRecursion P (tags_of (entries m)) ↔ ((k : Place) (mark : Bool) → get m k ≡ Some mark → P (tag_at k, mark))
each_tag P m =
    let listed = each_mapped P (λ (e : Place × Bool). (tag_at e.0, e.1)) (entries m) in
    let held = each_entry (λ e. P (tag_at e.0, e.1)) m in
    (λ all. held.0 (listed.1 all), λ all. listed.0 (held.1 all))

pub each_done : (P : Inst → Type 0) (m : FinMap place_cmp ⊤) → AllByRecursion P (insts_of (entries m)) ↔ ((k : Place) (x : ⊤) → get m k ≡ Some x → P (inst_at k))
each_done P m =
    let listed = each_mapped P (λ (e : Place × ⊤). inst_at e.0) (entries m) in
    let held = each_entry (λ e. P (inst_at e.0)) m in
    (λ all. held.0 (listed.1 all), λ all. listed.0 (held.1 all))

pub each_item : (P : Item → Type 0) (m : FinMap place_cmp (ℤ × Producer)) → AllByRecursion P (items_of (entries m)) ↔ ((k : Place) (x : ℤ × Producer) → get m k ≡ Some x → P (address_at k, x.0, x.1))
each_item P m =
    let named : Place × (ℤ × Producer) → Addr × (ℤ × Producer) = λ e. (address_at e.0, e.1) in
    let listed = each_mapped P as_listed (map named (entries m)) in
    let inner = each_mapped (λ held. P (as_listed held)) named (entries m) in
    let held = each_entry (λ e. P (address_at e.0, e.1.0, e.1.1)) m in
    (λ all. held.0 (inner.1 (listed.1 all)), λ all. listed.0 (inner.0 (held.1 all)))
