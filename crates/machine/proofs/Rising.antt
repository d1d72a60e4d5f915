-- Instances each of which comes after the one before it: none stands there twice.
use Rattle.std.proofs.Common.{◌≡◌, ◌∙◌, ◌+◌, ◌-◌, ◌≤◌, ◌<◌, ◌||◌, ap, refl, inl, inr, ℕ, true, false, List, [], ◌∷◌, length, get_or, slice_get, Some, Ordering, Less, Equal, Greater, is_eq, is_lt, arith}
use Rattle.std.proofs.lemmas.Bool.{cases_lt}
use Rattle.std.proofs.lemmas.Cmp.{nat_cmp_total, int_cmp_total, on_total, then_total, lists_total}
use Rattle.std.proofs.lemmas.Map.Keys.{sorted_from_all_adjacent, sorted_head, sorted_tail}
use Rattle.std.proofs.lemmas.Option.{get_or_from_slice_get}
use Rattle.std.specs.Cmp.{IsTotalOrder}
use Rattle.std.specs.List.{AllByRecursion}
use Rattle.std.specs.List.Sorted.{IsStrictlySortedBy}
use Rattle.terms.specs.declared.name.Inst.{Inst}
use Rattle.terms.specs.Name.{inst_cmp}
use Rattle.items.specs.Once.{IsOnceEach, is_one_of}

-- of the first `number` instances, each that has a next one comes before it
abbrev pub Rises : List Inst → ℕ → Type 0
Rises list number = (place : ℕ) (default : Inst) → place + 1 < number → inst_cmp (get_or list place default) (get_or list (place + 1) default) ≡ Less

in_order : IsTotalOrder inst_cmp
in_order = then_total (on_total (λ (i : Inst). i.collection.0) nat_cmp_total) (on_total (λ i. i.key) (lists_total int_cmp_total))

pub less_of : (order : Ordering) → is_lt order ≡ true → order ≡ Less
less_of Less is = refl
less_of Equal is = cc
less_of Greater is = cc

-- an instance below all others is none of them
none_below : (instance : Inst) (list : List Inst) → AllByRecursion (λ (one : Inst). inst_cmp instance one ≡ Less) list → is_one_of instance list ≡ false
none_below instance [] below = refl
none_below instance (one ∷ rest) below = ap (λ (o : Ordering). is_eq o || is_one_of instance rest) below.0 ∙ none_below instance rest below.1

once_each : (list : List Inst) → IsStrictlySortedBy inst_cmp list → IsOnceEach list
once_each [] sorted = tt
once_each (one ∷ rest) sorted = (none_below one rest (sorted_head inst_cmp one rest sorted), once_each rest (sorted_tail inst_cmp one rest sorted))

pub rising_once : (list : List Inst) (number : ℕ) → length list ≤ number → Rises list number → IsOnceEach list
rising_once [] number all rises = tt
rising_once (first ∷ rest) number all rises =
    once_each (first ∷ rest) (sorted_from_all_adjacent in_order (first ∷ rest) first (λ place within. rises place first (omega (arith, within, all))))

-- one more
pub rises_on : (list : List Inst) (number : ℕ) (before this : Inst) → 1 ≤ number → slice_get list (number - 1) ≡ Some before → slice_get list number ≡ Some this → inst_cmp before this ≡ Less → Rises list number → Rises list (number + 1)
rises_on list number before this positive was is less rises place default within = elim (cases_lt (place + 1) number) [
  | inl lower ↦ rises place default lower
  | inr not_lower ↦
      let one : get_or list place default ≡ before = ap (λ (n : ℕ). get_or list n default) (omega (arith, not_lower, within, positive)) ∙ get_or_from_slice_get list (number - 1) before default was in
      let next : get_or list (place + 1) default ≡ this = ap (λ (n : ℕ). get_or list n default) (omega (arith, not_lower, within)) ∙ get_or_from_slice_get list number this default is in
      (λ i. inst_cmp (one i) (next i)) ∙ less
]
