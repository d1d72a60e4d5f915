-- A list of instances that has each once, in the order of the names of their steps, is strictly sorted.
use Rattle.std.proofs.Common.{◌≡◌, ◌∙◌, ap, refl, sym, subst, ℕ, ◌+◌, ◌<◌, false, T, List, [], ◌∷◌, map, length, get_or, arith}
use Rattle.std.proofs.Math.ListN.{get_or-map}
use Rattle.std.proofs.lemmas.List.{length-map}
use Rattle.std.proofs.lemmas.Bool.{false≢true}
use Rattle.std.proofs.lemmas.Cmp.{eq_by_cmp_equiv}
use Rattle.std.proofs.lemmas.List.Sorted.{IsPermutation-map}
use Rattle.std.proofs.lemmas.Map.Keys.{IsDistinct-IsPermutation, IsDistinct-from_sorted, apart_from_distinct, sorted_from_all_adjacent}
use Rattle.std.specs.Cmp.{IsTotalOrder}
use Rattle.std.specs.FinMap.{is_sorted}
use Rattle.std.specs.List.{IsDistinct}
use Rattle.std.specs.List.Sorted.{IsPermutation, IsSortedBy, IsStrictlySortedBy}
use Rattle.std.specs.Ordering.{eq_by_cmp, is_eq, is_lt, ordering_reverse}
use Rattle.std.specs.declared.cmp.Ordering.{Ordering}
use Rattle.std.specs.declared.cmp.Ordering.TheVariants.{Less, Equal, Greater}
use Rattle.terms.specs.declared.name.Addr.{Addr}
use Rattle.terms.specs.declared.name.Inst.{Inst}
use Rattle.terms.specs.Name.{inst_cmp}
use Rattle.terms.proofs.Numbered.{both_tie}
use Rattle.graph.specs.Graph.{Graph}
use Rattle.session.specs.Answers.{instance_cmp}
use Rattle.session.proofs.ByName.{instances_total}
use Rattle.session.proofs.Listed.{keys_rise}

-- what is not above, and does not tie, is below
below : (o : Ordering) → is_lt (ordering_reverse o) ≡ false → (o ≡ Equal → ⊥) → o ≡ Less
below Less back apart = refl
below Equal back apart = absurd (apart refl)
below Greater back apart = absurd (false≢true (sym back))

-- instances that tie by the names of their steps, their numbers and their keys tie by the last two
tie : (g : Graph) (one two : Inst) → instance_cmp g one two ≡ Equal → inst_cmp one two ≡ Equal
tie g one two same = (both_tie _ (inst_cmp one two) same).1

-- a list of instances in that order, of which no two tie, is strictly sorted
rises_apart : (g : Graph) (list : List (Inst × Addr)) → IsSortedBy (λ one two. is_lt (instance_cmp g one.0 two.0)) list → IsDistinct (eq_by_cmp inst_cmp) (map (λ entry. entry.0) list)
    → IsStrictlySortedBy (instance_cmp g) (map (λ entry. entry.0) list)
unfolding IsStrictlySortedBy
rises_apart g [] sorted distinct = tt
rises_apart g (first ∷ rest) sorted distinct = sorted_from_all_adjacent (instances_total g) keys first.0 step
  where
    list : List (Inst × Addr)
    list = first ∷ rest

    keys : List Inst
    keys = map (λ (entry : Inst × Addr). entry.0) list

    at : ℕ → Inst
    at place = get_or keys place first.0

    apart : (k : ℕ) → k + 1 < length keys → instance_cmp g (at k) (at (k + 1)) ≡ Equal → ⊥
    apart k within same =
        false≢true (sym (apart_from_distinct (eq_by_cmp inst_cmp) keys k (k + 1) first.0 distinct (omega arith) within) ∙ ap is_eq (tie g (at k) (at (k + 1)) same))

    back : (k : ℕ) → k + 1 < length keys → is_lt (instance_cmp g (at (k + 1)) (at k)) ≡ false
    back k within =
        let long = length-map list (λ (entry : Inst × Addr). entry.0) in
        subst (λ (one : Inst). is_lt (instance_cmp g one (at k)) ≡ false) (sym (get_or-map (λ (entry : Inst × Addr). entry.0) list (k + 1) first))
        (subst (λ (two : Inst). is_lt (instance_cmp g (get_or list (k + 1) first).0 two) ≡ false) (sym (get_or-map (λ (entry : Inst × Addr). entry.0) list k first)) (sorted k first (omega arith) (omega arith)))

    step : (k : ℕ) → k + 1 < length keys → instance_cmp g (at k) (at (k + 1)) ≡ Less
    step k within =
        below (instance_cmp g (at k) (at (k + 1))) (ap is_lt (sym ((instances_total g).antisymm (at (k + 1)) (at k))) ∙ back k within) (apart k within)

-- so is a list of instances that is strictly sorted by numbers and keys, once it is sorted in that order
pub strictly : IsTotalOrder inst_cmp → (g : Graph) (blocked list : List (Inst × Addr)) → T (is_sorted inst_cmp blocked) → IsPermutation blocked list
    → IsSortedBy (λ one two. is_lt (instance_cmp g one.0 two.0)) list → IsStrictlySortedBy (instance_cmp g) (map (λ entry. entry.0) list)
strictly total g blocked list once same sorted =
    rises_apart g list sorted
    (IsDistinct-IsPermutation (eq_by_cmp inst_cmp) (eq_by_cmp_equiv total).symm (map (λ (entry : Inst × Addr). entry.0) blocked) (map (λ (entry : Inst × Addr). entry.0) list)
    (IsPermutation-map (λ (entry : Inst × Addr). entry.0) blocked list same)
    (IsDistinct-from_sorted inst_cmp (map (λ (entry : Inst × Addr). entry.0) blocked) (keys_rise inst_cmp blocked once)))
