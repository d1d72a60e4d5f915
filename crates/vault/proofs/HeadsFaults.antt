-- Which fault of the heads an opening returns.
use Rattle.std.proofs.Common.{◌≡◌, inl, inr, ℕ, List, length, sym, ap, ◌∙◌, arith, refl, subst}
use Rattle.std.specs.Prelude.{Option, Some, None, Result, Ok, Err, IsErrOf, IsErrAnd}
use Rattle.disk.specs.declared.side.Side.TheVariants.{A, B}
use Rattle.disk.specs.Time.{Contents}
use Rattle.sides.specs.Side.{IsOpen, HasGeneration}
use Rattle.vault.specs.declared.error.VaultError.{VaultError}
use Rattle.vault.specs.declared.error.VaultError.TheVariants.{Damaged, NotAStore}
use Rattle.vault.specs.Opened.{HeadsFault, IsCutShort, IsGenerationOf, SaysCutShort}
use Rattle.vault.proofs.OpenedHeads.{opens}

-- a side that is closed, or has a generation, is not short
pub not_short : (o : Option ℕ) (bytes : List ℕ) → IsGenerationOf o bytes → IsCutShort bytes → ⊥
not_short None bytes closed short = closed short.0
not_short (Some n) bytes has short = omega (arith, (opens bytes n has).1, short.1)

-- a side that is not open has no generation
pub closed_none : (o : Option ℕ) (bytes : List ℕ) → IsGenerationOf o bytes → (IsOpen bytes → ⊥) → o ≡ None
closed_none None bytes closed none = refl
closed_none (Some n) bytes has none = absurd (none (opens bytes n has).0)

module _ (contents : Contents) (fault error : VaultError) where
  -- if A is short, the error is the fault of the heads
  pub a_is_told : HeadsFault contents fault → SaysCutShort A (contents A) error → error ≡ fault
  a_is_told (inl first) it = it.1 ∙ sym first.1
  a_is_told (inr (inl second)) it = absurd (second.0 it.0)
  a_is_told (inr (inr (inl third))) it = absurd (not_short (Some third.0.0) (contents A) third.0.1 it.0)
  a_is_told (inr (inr (inr none))) it = absurd (none.0 A it.0.0)

  -- if B is short, and A is not, it is too
  pub b_is_told : (IsCutShort (contents A) → ⊥) → HeadsFault contents fault → SaysCutShort B (contents B) error → error ≡ fault
  b_is_told long (inl first) it = absurd (long first.0)
  b_is_told long (inr (inl second)) it = it.1 ∙ sym second.1.1
  b_is_told long (inr (inr (inl third))) it = absurd (not_short (Some third.0.0) (contents B) third.0.2 it.0)
  b_is_told long (inr (inr (inr none))) it = absurd (none.0 B it.0.0)

-- if neither is short, the result is the fault of the heads
pub both_are_told : {T : Type 0} (result : Result T VaultError) (contents : Contents) (a b : Option ℕ) (fault : VaultError) → IsGenerationOf a (contents A) → IsGenerationOf b (contents B)
    → ((generation : ℕ) → HasGeneration (contents A) generation → HasGeneration (contents B) generation → IsErrOf result (Damaged A 2)) → (a ≡ None → b ≡ None → IsErrOf result NotAStore)
    → HeadsFault contents fault → IsErrOf result fault
both_are_told result contents a b fault of_a of_b alike closed (inl first) = absurd (not_short a (contents A) of_a first.0)
both_are_told result contents a b fault of_a of_b alike closed (inr (inl second)) = absurd (not_short b (contents B) of_b second.1.0)
both_are_told result contents a b fault of_a of_b alike closed (inr (inr (inl third))) = subst (λ (it : VaultError). IsErrOf result it) (sym third.1) (alike third.0.0 third.0.1 third.0.2)
both_are_told result contents a b fault of_a of_b alike closed (inr (inr (inr none))) =
    subst (λ (it : VaultError). IsErrOf result it) (sym none.1) (closed (closed_none a (contents A) of_a (none.0 A)) (closed_none b (contents B) of_b (none.0 B)))

-- an error that a `?` hands on
pub told_on : {T : Type 0} (error fault : VaultError) (result : Result T VaultError) → IsErrAnd result (λ other. other ≡ error) → error ≡ fault → IsErrOf result fault
told_on error fault (Ok x) is same = absurd is
told_on error fault (Err other) is same = ap (λ (it : VaultError). Err it) (is ∙ same)

pub same_error : {T : Type 0} (error fault : VaultError) → IsErrOf {T = T} (Err error) fault → error ≡ fault
same_error {T} error fault is = cc
