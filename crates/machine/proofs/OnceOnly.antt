-- Instances that are looked at one after another: what holds of all of them is decided by those that are left.
use Rattle.std.proofs.Common.{◌≡◌, ◌∙◌, ◌+◌, ◌<◌, ◌≤◌, ◌||◌, ap, sym, refl, subst, ℕ, zero, suc, Bool, true, false, List, [], ◌∷◌, drop, length, Some, slice_get, IsSome, arith}
use Rattle.std.specs.Ordering.{eq_by_cmp}
use Rattle.terms.specs.declared.name.Inst.{Inst}
use Rattle.terms.specs.Name.{inst_cmp}
use Rattle.items.specs.Once.{is_one_of}
use Rattle.machine.proofs.Woken.{left_none}

-- there is an element below the length
pub there_at : (n : ℕ) (list : List Inst) → n < length list → IsSome (slice_get list n)
there_at n [] within = absurd (omega (arith, within))
there_at zero (first ∷ others) within = refl
there_at (suc n) (first ∷ others) within = there_at n others (omega (arith, within))

-- what is left there begins with it
pub left_from : (n : ℕ) (list : List Inst) (one : Inst) → slice_get list n ≡ Some one → drop n list ≡ one ∷ drop (suc n) list
left_from n [] one is = absurd (nothing n is)
  where
    nothing : (n : ℕ) → slice_get {X = Inst} [] n ≡ Some one → ⊥
    nothing n is = cc
left_from zero (first ∷ others) one is = ap (λ (i : Inst). i ∷ others) (same is)
  where
    same : Some first ≡ Some one → first ≡ one
    same is = cc
left_from (suc n) (first ∷ others) one is = left_from n others one is

-- ---- what holds of all

module _ (Q : List Inst → Type 0) (list : List Inst) where
  -- it holds of the list exactly if it holds of what is left
  abbrev pub Decides : ℕ → Type 0
  Decides n = (Q (drop n list) → Q list) × (Q list → Q (drop n list))

  pub passed : (n : ℕ) (one : Inst) → slice_get list n ≡ Some one → (Q (drop (suc n) list) → Q (one ∷ drop (suc n) list)) → (Q (one ∷ drop (suc n) list) → Q (drop (suc n) list)) → Decides n → Decides (n + 1)
  passed n one is on back decides =
      let next : suc n ≡ n + 1 = omega arith in
      let left = left_from n list one is in
      subst Decides next (λ rest. decides.0 (subst Q (sym left) (on rest)), λ all. back (subst Q left (decides.1 all)))

  pub refuted : (n : ℕ) (one : Inst) → slice_get list n ≡ Some one → (Q (one ∷ drop (suc n) list) → ⊥) → Decides n → Q list → ⊥
  refuted n one is none decides all = none (subst Q (left_from n list one is) (decides.1 all))

  pub decided : (n : ℕ) → length list ≤ n → Q [] → Decides n → Q list
  decided n past nothing decides = decides.0 (subst Q (sym (left_none n list past)) nothing)

-- ---- whether an instance is among those from a number on

module _ (inst : Inst) (list : List Inst) (from : ℕ) where
  -- it is exactly if it is among what is left
  abbrev pub IsStillSought : ℕ → Type 0
  IsStillSought n = is_one_of inst (drop from list) ≡ is_one_of inst (drop n list)

  with_next : (n : ℕ) (other : Inst) (here : Bool) → slice_get list n ≡ Some other → eq_by_cmp inst_cmp inst other ≡ here → IsStillSought n → is_one_of inst (drop from list) ≡ (here || is_one_of inst (drop (suc n) list))
  with_next n other here is same sought = sought ∙ ap (is_one_of inst) (left_from n list other is) ∙ ap (λ b. b || is_one_of inst (drop (suc n) list)) same

  pub not_the_next : (n : ℕ) (other : Inst) → slice_get list n ≡ Some other → eq_by_cmp inst_cmp inst other ≡ false → IsStillSought n → IsStillSought (n + 1)
  not_the_next n other is same sought = let next : suc n ≡ n + 1 = omega arith in subst IsStillSought next (with_next n other false is same sought)

  pub is_the_next : (n : ℕ) (other : Inst) → slice_get list n ≡ Some other → eq_by_cmp inst_cmp inst other ≡ true → IsStillSought n → is_one_of inst (drop from list) ≡ true
  is_the_next n other is same sought = with_next n other true is same sought

  pub is_none : (n : ℕ) → length list ≤ n → IsStillSought n → is_one_of inst (drop from list) ≡ false
  is_none n past sought = sought ∙ ap (is_one_of inst) (left_none n list past)
