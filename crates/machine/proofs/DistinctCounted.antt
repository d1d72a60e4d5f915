-- How often a list has an address: at least twice if the address is twice in the list, and as often in any other order.
use Rattle.std.proofs.Common.{◌≡◌, ◌+◌, ◌≤◌, ap, ap₂, sym, refl, ℕ, Bool, true, false, cond, List, [], ◌∷◌, ◌++◌, sum_by, IsPermutation, arith}
use Rattle.std.proofs.lemmas.List.Sums.{sum_by-append}
use Rattle.std.proofs.lemmas.List.Sorted.{IsPermutation-sym, sum_by-IsPermutation}
use Rattle.std.specs.Bool.{MatchBool}
use Rattle.terms.specs.declared.name.Addr.{Addr}
use Rattle.terms.specs.Same.{is_same, same_itself, same_address}
use Rattle.graph.specs.Fits.{IsIn, IsTwiceIn}

abbrev pub number : Bool → ℕ
number b = cond b 1 0

-- 1 for the address itself, and 0 for another one
abbrev pub one_if_same : Addr → Addr → ℕ
one_if_same address one = cond (is_same address one) 1 0

abbrev pub times : Addr → List Addr → ℕ
times address list = sum_by (one_if_same address) list

-- the first of a list is counted by itself
pub first_counts : (address one : Addr) (rest : List Addr) → times address (one ∷ rest) ≡ one_if_same address one + times address rest
first_counts address one rest = omega (arith, sum_by-append (one_if_same address) (one ∷ []) rest)

counts_itself : (address : Addr) → one_if_same address address ≡ 1
counts_itself address = ap number (same_itself address)

-- an address in front of the rest
at_front : (address : Addr) (before behind : List Addr) → times address (before ++ address ∷ behind) ≡ times address before + (1 + times address behind)
at_front address before behind =
    omega (arith, sum_by-append (one_if_same address) before (address ∷ behind), first_counts address address behind, counts_itself address)

pub in_counts : (address : Addr) (list : List Addr) → IsIn address list → 1 ≤ times address list
in_counts address list it = omega (arith, ap (times address) it.2, at_front address it.0 it.1)

pub times_both : (address : Addr) (one other : List Addr) → times address (one ++ other) ≡ times address one + times address other
times_both address one other = sum_by-append (one_if_same address) one other

pub twice_counts : (address : Addr) (list : List Addr) → IsTwiceIn address list → 2 ≤ times address list
twice_counts address list twice =
    omega (arith, ap (times address) twice.3, at_front address (twice.0 ++ address ∷ twice.1) twice.2, at_front address twice.0 twice.1)

pub one_is_in : (address : Addr) (list : List Addr) → 1 ≤ times address list → IsIn address list
one_is_in address [] counts = absurd (omega (arith, counts))
one_is_in address (one ∷ rest) counts = by_cases (one_is_in address rest) (is_same address one) refl
  where
    by_cases : (1 ≤ times address rest → IsIn address rest) → (b : Bool) → is_same address one ≡ b → IsIn address (one ∷ rest)
    by_cases behind true is = ([], rest, ap (λ (x : Addr). x ∷ rest) (sym (same_address address one is)))
    by_cases behind false is =
        let there = behind (omega (arith, counts, first_counts address one rest, ap number is)) in
        (one ∷ there.0, there.1, ap (λ (xs : List Addr). one ∷ xs) there.2)

pub two_are_in : (address : Addr) (list : List Addr) → 2 ≤ times address list → IsTwiceIn address list
two_are_in address [] counts = absurd (omega (arith, counts))
two_are_in address (one ∷ rest) counts = by_cases (two_are_in address rest) (is_same address one) refl
  where
    by_cases : (2 ≤ times address rest → IsTwiceIn address rest) → (b : Bool) → is_same address one ≡ b → IsTwiceIn address (one ∷ rest)
    by_cases behind true is =
        let there = one_is_in address rest (omega (arith, counts, first_counts address one rest, ap number is)) in
        ([], there.0, there.1, ap₂ (λ (x : Addr) (xs : List Addr). x ∷ xs) (sym (same_address address one is)) there.2)
    by_cases behind false is =
        let there = behind (omega (arith, counts, first_counts address one rest, ap number is)) in
        (one ∷ there.0, there.1, there.2, ap (λ (xs : List Addr). one ∷ xs) there.3)

-- an address that is twice in a list is twice in it in any order
pub still_twice : (address : Addr) (one other : List Addr) → IsPermutation one other → IsTwiceIn address other → IsTwiceIn address one
still_twice address one other moved twice =
    two_are_in address one (omega (arith, twice_counts address other twice, sum_by-IsPermutation (one_if_same address) one other moved))

-- what the result says about a list: for true no address is twice in it, for false one is
abbrev pub Tells : Bool → List Addr → Type 0
Tells answer list = MatchBool answer ((address : Addr) → IsTwiceIn address list → ⊥) ((address : Addr) × IsTwiceIn address list)

-- and it says the same about the list in any order
pub told_of : (answer : Bool) (one other : List Addr) → IsPermutation one other → Tells answer other → Tells answer one
told_of true one other moved none = λ address twice. none address (still_twice address other one (IsPermutation-sym one other moved) twice)
told_of false one other moved found = (found.0, still_twice found.0 one other moved found.1)
