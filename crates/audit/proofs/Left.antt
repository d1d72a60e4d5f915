-- Walks along what a store holds: what is there is listed, and what is left of a list when a loop has gone past some of it.
use Rattle.std.proofs.Common.{◌≡◌, ◌⊎◌, ◌∙◌, ℤ, Bool, true, false, cond, List, [], ◌∷◌, map, ◌&&◌, Option, None, Some, inl, inr, refl, sym, ap, subst}
use Rattle.std.proofs.lemmas.Bool.{false≢true}
use Rattle.std.specs.Prelude.{T}
use Rattle.std.specs.declared.cmp.Ordering.{Ordering}
use Rattle.std.specs.declared.cmp.Ordering.TheVariants.{Less, Equal, Greater}
use Rattle.std.specs.Ordering.{is_eq, is_lt}
use Rattle.std.specs.Cmp.{tied_itself}
use Rattle.std.specs.FinMap.{FinMap, entries, entries_sorted, find, get, get-entries, is_sorted}
use Rattle.std.specs.FinMap.Entries.{below_all}
use Rattle.terms.specs.Same.{is_same, same_itself}
use Rattle.terms.specs.declared.name.Addr.{Addr}
use Rattle.terms.specs.declared.name.Tag.{Tag}
use Rattle.terms.specs.declared.producer.Producer.{Producer}
use Rattle.terms.specs.Facts.{item}
use Rattle.terms.specs.Sets.{OneFact}
use Rattle.maps.specs.Numbered.{Place, place_cmp}
use Rattle.maps.specs.PlaceOrder.{places_total, same_places}
use Rattle.items.specs.Held.{place, address_at}
use Rattle.instances.specs.Known.{mark_of, tag_at, tag_place}
use Rattle.holdings.specs.ImageLaws.{is_item}
use Rattle.machine.specs.Machine.{Machine, facts}

-- x is an element of the list
abbrev pub IsIn : {X : Type 0} → X → List X → Type 0
IsIn x [] = ⊥
IsIn x (y ∷ ys) = (x ≡ y) ⊎ IsIn x ys

-- whatever P holds of, Q holds of too, or it is still to come
pub record Left {X : Type 0} (P Q : X → Type 0) (list : List X) : Type 0 where
  pub rest : (x : X) → P x → Q x ⊎ IsIn x list
  pub there : (x : X) → IsIn x list → P x

module _ {X : Type 0} (P Q : X → Type 0) where
  -- the next one is done
  pub one_done : (x : X) (xs : List X) → Left P Q (x ∷ xs) → Q x → Left P Q xs
  one_done x xs left holds = record {
    rest = λ y p. elim (left.rest y p) [
      | inl q ↦ inl q
      | inr (inl same) ↦ inl (subst Q (sym same) holds)
      | inr (inr later) ↦ inr later
    ];
    there = λ y is. left.there y (inr is);
  }

  pub the_next : (x : X) (xs : List X) → Left P Q (x ∷ xs) → P x
  the_next x xs left = left.there x (inl refl)

  pub none_left : Left P Q [] → (x : X) → P x → Q x
  none_left left x p = elim (left.rest x p) [ inl q ↦ q | inr none ↦ absurd none ]

pub more_done : {X : Type 0} (P Q R : X → Type 0) (list : List X) → ((x : X) → Q x → R x) → Left P Q list → Left P R list
more_done P Q R list grows left = record {
  rest = λ x p. elim (left.rest x p) [ inl q ↦ inl (grows x q) | inr is ↦ inr is ];
  there = left.there;
}

is_in_map : {X Y : Type 0} (f : X → Y) (x : X) (xs : List X) → IsIn x xs → IsIn (f x) (map f xs)
is_in_map f x [] is = is
is_in_map f x (y ∷ ys) (inl same) = inl (ap f same)
is_in_map f x (y ∷ ys) (inr later) = inr (is_in_map f x ys later)

-- what is in the image of a list comes from an element
from_map : {X Y : Type 0} (f : X → Y) (y : Y) (xs : List X) → IsIn y (map f xs) → (x : X) × (y ≡ f x) × IsIn x xs
from_map f y [] is = absurd is
from_map f y (x ∷ xs) (inl same) = (x, same, inl refl)
from_map f y (x ∷ xs) (inr later) = let it = from_map f y xs later in (it.0, it.1, inr it.2)

same_some : {X : Type 0} (x y : X) → Some x ≡ Some y → x ≡ y
same_some x y same = cc

-- what is found at a place is listed with it
found_is_in : {X : Type 0} (q : Place) (x : X) (es : List (Place × X)) → find place_cmp q es ≡ Some x → IsIn (q, x) es
found_is_in q x [] found = absurd (cc)
found_is_in {X} q x (e ∷ es) found = at (found_is_in q x es) (place_cmp q e.0) refl
  where
    at : (find place_cmp q es ≡ Some x → IsIn (q, x) es) → (r : Ordering) → place_cmp q e.0 ≡ r → IsIn (q, x) (e ∷ es)
    at rest Equal is =
        let one : e.1 ≡ x = same_some e.1 x (subst (λ r. cond (is_eq r) (Some e.1) (find place_cmp q es) ≡ Some x) is found) in
        inl (λ i. (same_places q e.0 is i, sym one i))
    at rest Less is = inr (rest (subst (λ r. cond (is_eq r) (Some e.1) (find place_cmp q es) ≡ Some x) is found))
    at rest Greater is = inr (rest (subst (λ r. cond (is_eq r) (Some e.1) (find place_cmp q es) ≡ Some x) is found))

first : (a b : Bool) → T (a && b) → T a
first true b p = tt
first false b p = p

second : (a b : Bool) → T (a && b) → T b
second true b p = p
second false b p = absurd p

-- a place below all others is not among them
not_among : {X : Type 0} (k : Place) (es : List (Place × X)) → T (below_all place_cmp k es) → find place_cmp k es ≡ None
not_among k [] below = refl
not_among k (e ∷ es) below =
    ap (λ o. cond (is_eq o) (Some e.1) (find place_cmp k es)) (less (place_cmp k e.0) (first (is_lt (place_cmp k e.0)) (below_all place_cmp k es) below)) ∙ not_among k es (second (is_lt (place_cmp k e.0)) (below_all place_cmp k es) below)
  where
    less : (o : Ordering) → T (is_lt o) → o ≡ Less
    less Less p = refl
    less Equal p = absurd p
    less Greater p = absurd p

listed : {X : Type 0} (m : FinMap place_cmp X) (q : Place) (x : X) → get m q ≡ Some x → IsIn (q, x) (entries m)
listed m q x is = found_is_in q x (entries m) (sym (get-entries m q) ∙ is)

both_true : (a b : Bool) → a ≡ true → b ≡ true → (a && b) ≡ true
both_true a b one two = cc

none_is_some : {X : Type 0} (x : X) → None ≡ Some x → ⊥
none_is_some x same = cc

-- in a list in order, what is listed at a place is found there
found_first : {X : Type 0} (q : Place) (x : X) (es : List (Place × X)) → T (is_sorted place_cmp es) → IsIn (q, x) es → find place_cmp q es ≡ Some x
found_first q x [] sorted is = absurd is
found_first {X} q x (e ∷ es) sorted (inl same) = subst (λ (p : Place × X). cond (is_eq (place_cmp q p.0)) (Some p.1) (find place_cmp q es) ≡ Some x) same (ap (λ o. cond (is_eq o) (Some x) (find place_cmp q es)) (tied_itself places_total q))
found_first {X} q x (e ∷ es) sorted (inr later) = at (found_first q x es (second (below_all place_cmp e.0 es) (is_sorted place_cmp es) sorted) later) (place_cmp q e.0) refl
  where
    at : find place_cmp q es ≡ Some x → (r : Ordering) → place_cmp q e.0 ≡ r → cond (is_eq (place_cmp q e.0)) (Some e.1) (find place_cmp q es) ≡ Some x
    at found Less is = ap (λ o. cond (is_eq o) (Some e.1) (find place_cmp q es)) is ∙ found
    at found Greater is = ap (λ o. cond (is_eq o) (Some e.1) (find place_cmp q es)) is ∙ found
    at found Equal is = absurd (none_is_some x (sym (ap (λ (p : Place). find place_cmp p es) (same_places q e.0 is) ∙ not_among e.0 es (first (below_all place_cmp e.0 es) (is_sorted place_cmp es) sorted)) ∙ found))

-- ---- items

module _ (told : OneFact) where
  pub held : (o : Option (ℤ × Producer)) (address : Addr) (value : ℤ) (by : Producer) → is_item o value by ≡ true → o ≡ Some (value, by)
  held None address value by is = absurd (false≢true is)
  held (Some there) address value by is =
      let one = (told (item address there.0 there.1) (item address value by)).1 (both_true (is_same address address) (is_item (Some there) value by) (same_itself address) is) in
      λ i. Some (same_value one i, same_producer one i)
    where
      same_value : item address there.0 there.1 ≡ item address value by → there.0 ≡ value
      same_value same = cc

      same_producer : item address there.0 there.1 ≡ item address value by → there.1 ≡ by
      same_producer same = cc

  pub is_held : (o : Option (ℤ × Producer)) (address : Addr) (value : ℤ) (by : Producer) → o ≡ Some (value, by) → is_item o value by ≡ true
  is_held o address value by is = subst (λ (x : Option (ℤ × Producer)). is_item x value by ≡ true) (sym is) (right (is_same address address) (is_item (Some (value, by)) value by) (told (item address value by) (item address value by)).0)
    where
      right : (a b : Bool) → (a && b) ≡ true → b ≡ true
      right true b is_true = is_true
      right false b is_true = absurd (false≢true is_true)

  pub item_is_listed : (m : Machine) (address : Addr) (value : ℤ) (by : Producer) → facts m (item address value by) ≡ true
      → IsIn {X = Addr × (ℤ × Producer)} (address, (value, by)) (map (λ (entry : Place × (ℤ × Producer)). (address_at entry.0, entry.1)) (entries m.memory.items.items.items))
  item_is_listed m address value by is =
      is_in_map (λ (entry : Place × (ℤ × Producer)). (address_at entry.0, entry.1)) (place address, (value, by)) (entries m.memory.items.items.items)
      (listed m.memory.items.items.items (place address) (value, by) (held (get m.memory.items.items.items (place address)) address value by is))

  -- what is listed is there: the entries are in order, so none hides another
  pub listed_is_item : (m : Machine) (it : Addr × (ℤ × Producer)) → IsIn it (map (λ (entry : Place × (ℤ × Producer)). (address_at entry.0, entry.1)) (entries m.memory.items.items.items)) → facts m (item it.0 it.1.0 it.1.1) ≡ true
  listed_is_item m it is =
      let from = from_map (λ (entry : Place × (ℤ × Producer)). (address_at entry.0, entry.1)) it (entries m.memory.items.items.items) is in
      let held_there = get-entries m.memory.items.items.items from.0.0 ∙ found_first from.0.0 from.0.1 (entries m.memory.items.items.items) (entries_sorted m.memory.items.items.items) from.2 in
      subst (λ (x : Addr × (ℤ × Producer)). facts m (item x.0 x.1.0 x.1.1) ≡ true) (sym from.1) (is_held (get m.memory.items.items.items from.0.0) (address_at from.0.0) from.0.1.0 from.0.1.1 held_there)

-- ---- tags

pub tag_is_listed : (m : Machine) (name : Tag) (mark : Bool) → mark_of m.memory.instances name ≡ Some mark
    → IsIn {X = Tag × Bool} (name, mark) (map (λ (entry : Place × Bool). (tag_at entry.0, entry.1)) (entries m.memory.instances.tags.items))
tag_is_listed m name mark is =
    is_in_map (λ (entry : Place × Bool). (tag_at entry.0, entry.1)) (tag_place name, mark) (entries m.memory.instances.tags.items) (listed m.memory.instances.tags.items (tag_place name) mark is)

pub listed_is_tag : (m : Machine) (it : Tag × Bool) → IsIn it (map (λ (entry : Place × Bool). (tag_at entry.0, entry.1)) (entries m.memory.instances.tags.items)) → mark_of m.memory.instances it.0 ≡ Some it.1
listed_is_tag m it is =
    let from = from_map (λ (entry : Place × Bool). (tag_at entry.0, entry.1)) it (entries m.memory.instances.tags.items) is in
    subst (λ (x : Tag × Bool). mark_of m.memory.instances x.0 ≡ Some x.1) (sym from.1) (get-entries m.memory.instances.tags.items from.0.0 ∙ found_first from.0.0 from.0.1 (entries m.memory.instances.tags.items) (entries_sorted m.memory.instances.tags.items) from.2)
