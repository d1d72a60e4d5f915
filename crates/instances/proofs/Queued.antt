-- The keys of a queue, some of which were handed out: what is taken out, and what only moves.
use Rattle.std.proofs.Common.{◌≡◌, ◌<◌, sym, subst, ℕ, ℤ, List, [], ◌∷◌, ◌++◌, length, get_or, Option, Some, None, IsSome, OnSome, append_assoc}
use mathlib.Core.Bool.{false≢true}
use Rattle.std.specs.List.{remove}
use Rattle.std.specs.List.Sorted.{IsPermutation}
use Rattle.std.proofs.lemmas.List.Sorted.{IsPermutation-append_left, IsPermutation-append_right, IsPermutation-middle, IsPermutation-remove, IsPermutation-sym, IsPermutation-to_front, IsPermutation-trans}

abbrev pub Keys : Type 0
Keys = List (List ℤ)

-- a key of those that were not handed out is taken out
pub taken_front : (queued left handed : Keys) (key : List ℤ) → IsPermutation queued (key ∷ left) → IsPermutation (queued ++ handed) (key ∷ (left ++ handed))
taken_front queued left handed key taken = IsPermutation-append_left handed queued (key ∷ left) taken

-- a key of those that were
pub taken_handed : (queued handed : Keys) (place : ℕ) (key : List ℤ) → place < length handed → key ≡ get_or handed place key → IsPermutation (queued ++ handed) (key ∷ (queued ++ remove handed place))
taken_handed queued handed place key within is =
    IsPermutation-trans _ _ _ (IsPermutation-append_right queued handed (key ∷ remove handed place) (IsPermutation-remove handed place key within is)) (IsPermutation-middle queued key (remove handed place))

-- the first of those that were not is the last of those that were
pub handed_out : (queued handed : Keys) (key : List ℤ) → IsPermutation (key ∷ (queued ++ handed)) (queued ++ (handed ++ key ∷ []))
handed_out queued handed key =
    subst (IsPermutation (key ∷ (queued ++ handed))) (append_assoc queued handed (key ∷ [])) (IsPermutation-sym _ _ (IsPermutation-to_front (queued ++ handed) key))

-- and back
pub given_back : (queued handed : Keys) (key : List ℤ) → IsPermutation (queued ++ (handed ++ key ∷ [])) (key ∷ (queued ++ handed))
given_back queued handed key = IsPermutation-sym _ _ (handed_out queued handed key)

-- a key that joins those that were not handed out at their end
pub joined_last : (queued handed : Keys) (key : List ℤ) → IsPermutation (key ∷ (queued ++ handed)) ((queued ++ key ∷ []) ++ handed)
joined_last queued handed key = subst (IsPermutation (key ∷ (queued ++ handed))) (sym (append_assoc queued (key ∷ []) handed)) (IsPermutation-sym _ _ (IsPermutation-middle queued key handed))

pub when_some : {X P : Type 0} (o : Option X) → IsSome o → OnSome o P → P
when_some None is holds = absurd (false≢true is)
when_some (Some x) is holds = holds
