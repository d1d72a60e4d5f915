-- The values of several expressions, one after another.
use Rattle.std.proofs.Common.{◌≡◌, ◌<◌, ◌+◌, ℕ, suc, ℤ, List, [], ◌∷◌, ◌++◌, length, take, drop, get_or, slice_set, refl, sym, ap, ◌∙◌, arith, append_assoc}
use Rattle.std.specs.Prelude.{Result, Ok, Err}
use Rattle.std.proofs.lemmas.List.{take_more_set}
use Rattle.std.proofs.Math.Seq.{drop-cons}
use Rattle.steptree.specs.Tree.{Expression}
use Rattle.terms.specs.declared.fault.FaultKind.{FaultKind}
use Rattle.steptree.specs.Values.{with_value, value_of, values_of}

-- these values in front
abbrev pub prepended : List ℤ → Result (List ℤ) FaultKind → Result (List ℤ) FaultKind
prepended front values = with_value values (λ rest. Ok (front ++ rest))

-- one more value in front
prepended_more : (front : List ℤ) (value : ℤ) (values : Result (List ℤ) FaultKind) → prepended front (with_value values (λ rest. Ok (value ∷ rest))) ≡ prepended (front ++ value ∷ []) values
prepended_more front value (Ok rest) = ap (λ (l : List ℤ). Ok l) (sym (append_assoc front (value ∷ []) rest))
prepended_more front value (Err kind) = refl

pub one_more : (expressions : List Expression) (variables values : List ℤ) (index : ℕ) (value : ℤ) (this : Expression) → index < length values → index < length expressions
    → value_of (get_or expressions index this) variables ≡ Ok value
    → prepended (take index values) (values_of (drop index expressions) variables) ≡ prepended (take (index + 1) (slice_set values index value)) (values_of (drop (index + 1) expressions) variables)
one_more expressions variables values index value this room within gives =
    let next : suc index ≡ index + 1 = omega arith in
    ap (λ (l : List Expression). prepended (take index values) (values_of l variables)) (drop-cons expressions index this within)
    ∙ ap (λ (r : Result ℤ FaultKind). prepended (take index values) (with_value r (λ v. with_value (values_of (drop (suc index) expressions) variables) (λ vs. Ok (v ∷ vs))))) gives
    ∙ prepended_more (take index values) value (values_of (drop (suc index) expressions) variables)
    ∙ ap (λ (l : List ℤ). prepended l (values_of (drop (suc index) expressions) variables)) (sym (take_more_set values index value room))
    ∙ ap (λ (n : ℕ). prepended (take (index + 1) (slice_set values index value)) (values_of (drop n expressions) variables)) next
