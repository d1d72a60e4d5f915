-- Whether calls of a disk returned an error, from the counts of failures and of refusals, where other calls came before them.
use Rattle.std.proofs.Common.{◌≡◌, ◌≢◌, ◌<◌, ◌≤◌, ◌⊎◌, ◌∙◌, ℕ, inl, inr, sym, arith}
use Rattle.std.proofs.lemmas.Bool.{cases_lt}

-- two numbers that do not differ are equal
pub same_number : (n m : ℕ) → (n ≢ m → ⊥) → n ≡ m
same_number n m never = elim (cases_lt n m) [
  | inl above ↦ elim (cases_lt m n) [
    | inl below ↦ absurd (never (λ is. omega (arith, below, is)))
    | inr not_below ↦ omega (arith, above, not_below)
  ]
  | inr not_above ↦ elim (cases_lt m n) [
    | inl below ↦ absurd (never (λ is. omega (arith, below, is)))
    | inr not_below ↦ omega (arith, not_above, not_below)
  ]
]

-- what `HasErred` says of two moments, by their counts of failures and their numbers of refusals
abbrev pub HasErredFrom : (failures later refusals now : ℕ) → Type 0
HasErredFrom failures later refusals now = (failures < later) ⊎ (now ≢ refusals)

-- if no call failed in the first part, an error since then is one since the beginning
pub later_erred : (f g h r s t : ℕ) → f ≤ g → (HasErredFrom f g r s → ⊥) → HasErredFrom g h s t → HasErredFrom f h r t
later_erred f g h r s t later calm (inl grew) = inl (omega (arith, later, grew))
later_erred f g h r s t later calm (inr changed) = inr (λ is. changed (is ∙ sym (same_number s r (λ differs. calm (inr differs)))))

-- and an error since the beginning is one since then
pub erred_later : (f g h r s t : ℕ) → f ≤ g → (HasErredFrom f g r s → ⊥) → HasErredFrom f h r t → HasErredFrom g h s t
erred_later f g h r s t later calm (inl grew) = elim (cases_lt f g) [
  | inl before ↦ absurd (calm (inl before))
  | inr not_before ↦ inl (omega (arith, not_before, grew))
]
erred_later f g h r s t later calm (inr changed) = inr (λ is. changed (is ∙ same_number s r (λ differs. calm (inr differs))))
