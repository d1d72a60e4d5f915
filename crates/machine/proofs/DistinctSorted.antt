-- A sorted list has some address twice exactly if some address equals the one before it.
use Rattle.std.proofs.Common.{◌≡◌, ◌∙◌, ◌+◌, ◌-◌, ◌≤◌, ◌<◌, ap, subst, sym, refl, ℕ, zero, suc, Bool, true, false, List, [], ◌∷◌, length, get_or, IsSorted, Ordering, Less, Equal, Greater, is_eq, is_lt, arith}
use Rattle.std.specs.Cmp.{IsTotalOrder}
use Rattle.std.specs.Ordering.{ordering_reverse}
use Rattle.std.specs.List.{AllByRecursion}
use Rattle.std.specs.List.Sorted.{IsStrictlySortedBy}
use Rattle.std.proofs.lemmas.Cmp.{nat_cmp_total, int_cmp_total, on_total, then_total, lists_total}
use Rattle.std.proofs.lemmas.Map.Keys.{sorted_from_all_adjacent, sorted_head, sorted_tail}
use Rattle.terms.specs.declared.name.Addr.{Addr}
use Rattle.terms.specs.Name.{addr_cmp}
use Rattle.terms.specs.Same.{is_same, same_address}
use Rattle.graph.specs.Fits.{IsTwiceIn}
use Rattle.machine.proofs.DistinctCounted.{number, times, first_counts, twice_counts}

-- the address at this place differs from the next
abbrev pub Differs : List Addr → ℕ → Type 0
Differs list place = (default : Addr) → is_same (get_or list place default) (get_or list (place + 1) default) ≡ false

in_order : IsTotalOrder addr_cmp
in_order = then_total (on_total (λ (a : Addr). a.collection.0) nat_cmp_total) (on_total (λ a. a.key) (lists_total int_cmp_total))

only_less : (one back : Ordering) → one ≡ ordering_reverse back → is_lt back ≡ false → is_eq one ≡ false → one ≡ Less
only_less one Less reversed not_less differs = cc
only_less one Equal reversed not_less differs = let tie = ap is_eq (sym reversed) ∙ differs in cc
only_less one Greater reversed not_less differs = reversed

rises : (list : List Addr) (default : Addr) → IsSorted addr_cmp list → ((place : ℕ) → place + 1 < length list → Differs list place) → IsStrictlySortedBy addr_cmp list
rises list default sorted differ =
    sorted_from_all_adjacent in_order list default
    (λ place within. let one = get_or list place default in let next = get_or list (place + 1) default in
    only_less (addr_cmp one next) (addr_cmp next one) (in_order.antisymm one next) (sorted place default (omega arith) within) (differ place within default))

-- an address below all others is none of them
none_below : (address : Addr) (list : List Addr) → AllByRecursion (λ (one : Addr). addr_cmp address one ≡ Less) list → times address list ≡ 0
none_below address [] below = refl
none_below address (one ∷ rest) below =
    omega (arith, first_counts address one rest, ap (λ (o : Ordering). number (is_eq o)) below.0, none_below address rest below.1)

at_most_once : (address : Addr) (list : List Addr) → IsStrictlySortedBy addr_cmp list → times address list ≤ 1
at_most_once address [] sorted = omega arith
at_most_once address (one ∷ rest) sorted = by_cases (at_most_once address rest (sorted_tail addr_cmp one rest sorted)) (is_same address one) refl
  where
    by_cases : times address rest ≤ 1 → (b : Bool) → is_same address one ≡ b → times address (one ∷ rest) ≤ 1
    by_cases behind true is =
        let none = none_below one rest (sorted_head addr_cmp one rest sorted) in
        let same = ap (λ (a : Addr). times a rest) (same_address address one is) in
        omega (arith, first_counts address one rest, ap number is, none, same)
    by_cases behind false is = omega (arith, first_counts address one rest, ap number is, behind)

-- if no address equals the one before it, none appears twice
pub each_once : (list : List Addr) → IsSorted addr_cmp list → ((place : ℕ) → place + 1 < length list → Differs list place) → (address : Addr) → IsTwiceIn address list → ⊥
each_once list sorted differ address twice =
    omega (arith, twice_counts address list twice, at_most_once address list (rises list address sorted differ))

twice_at : (list : List Addr) (place : ℕ) (before this : Addr) → suc place < length list → before ≡ get_or list place before → this ≡ get_or list (suc place) this → before ≡ this → (address : Addr) × IsTwiceIn address list
twice_at [] place before this within is next_is same = absurd (omega (arith, within))
twice_at (one ∷ []) place before this within is next_is same = absurd (omega (arith, within))
twice_at (one ∷ next ∷ rest) zero before this within is next_is same =
    (one, ([], [], rest, ap (λ (x : Addr). one ∷ x ∷ rest) (sym next_is ∙ sym same ∙ is)))
twice_at (one ∷ next ∷ rest) (suc place) before this within is next_is same =
    let there = twice_at (next ∷ rest) place before this (omega (arith, within)) is next_is same in
    (there.0, (one ∷ there.1.0, there.1.1, there.1.2, ap (λ (xs : List Addr). one ∷ xs) there.1.3))

-- an address that equals the one before it appears twice
pub same_twice : (list : List Addr) (later : ℕ) (before this : Addr) → 1 ≤ later → later < length list → before ≡ get_or list (later - 1) before → this ≡ get_or list later this → is_same before this ≡ true → (address : Addr) × IsTwiceIn address list
same_twice list later before this positive within is next_is same =
    let next : later ≡ suc (later - 1) = omega arith in
    twice_at list (later - 1) before this (omega (arith, within)) is (subst (λ (n : ℕ). this ≡ get_or list n this) next next_is) (same_address before this same)
