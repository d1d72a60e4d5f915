-- Reached states that are given in another form, and the facts that puts state.
use Rattle.std.proofs.Common.{◌≡◌, ◌∙◌, ℕ, zero, suc, ◌+◌, Bool, true, false, List, [], ◌∷◌, ◌++◌, length, Some, inl, inr, refl, ap, subst, arith}
use Rattle.std.proofs.lemmas.Bool.{false≢true}
use Rattle.std.specs.Prelude.{slice_get}
use Rattle.terms.specs.declared.name.Inst.{Inst}
use Rattle.terms.specs.declared.put.Put.{Put}
use Rattle.terms.specs.declared.put.Put.TheVariants as put
use Rattle.terms.specs.Facts.{Fact, tag, item, done, bad, put_fact, put_facts}
use Rattle.terms.specs.Sets.{Facts, OneFact, among, is_fact}
use Rattle.graph.specs.Graph.{Graph}
use Rattle.machine.specs.Legal.{AreLegal}
use Rattle.machine.specs.State.{IsReached}
use Rattle.machine.proofs.Sets.{of_list, or_right, the_first}

pub never : (b : Bool) → (b ≡ true → ⊥) → b ≡ false
never true not = absurd (not refl)
never false not = refl

-- ---- reached states

pub moved_reached : (g h : Graph) (E F X Y : Facts) → g ≡ h → ((fact : Fact) → E fact ≡ F fact) → ((fact : Fact) → X fact ≡ Y fact) → IsReached g E X → IsReached h F Y
moved_reached g h E F X Y graphs given all it = record {
  events = it.events;
  legal = subst (λ (x : Graph). AreLegal x [] it.events) graphs it.legal;
  facts = λ fact. it.facts fact ∙ all fact;
  environment = λ fact. it.environment fact ∙ given fact;
}

-- ---- the facts of puts

-- it is no fault of an instance
abbrev pub IsSound : Fact → Type 0
IsSound (tag name) = Unit {0}
IsSound (item address value by) = Unit {0}
IsSound (done instance) = Unit {0}
IsSound (bad instance kind) = ⊥

module _ (told : OneFact) where
  -- what holds of the fact of each put holds of each fact of the list
  pub each_fact : (P : Fact → Type 0) (instance : Inst) (from : ℕ) (puts : List Put) → ((number : ℕ) (one : Put) → slice_get puts number ≡ Some one → P (put_fact instance (from + number) one))
      → (fact : Fact) → among (put_facts instance from puts) fact ≡ true → P fact
  each_fact P instance from [] all fact holds = absurd (false≢true holds)
  each_fact P instance from (first ∷ puts) all fact holds =
      elim (of_list told (put_fact instance from first) (put_facts instance (suc from) puts) fact holds) [
        | inl here ↦ subst P here (subst (λ (n : ℕ). P (put_fact instance n first)) (no_more from) (all 0 first refl))
        | inr later ↦ each_fact P instance (suc from) puts (λ number one at. subst (λ (n : ℕ). P (put_fact instance n one)) (one_more from number) (all (suc number) one at)) fact later
      ]
    where
      no_more : (n : ℕ) → n + 0 ≡ n
      no_more n = omega arith

      one_more : (n m : ℕ) → n + suc m ≡ suc n + m
      one_more n m = omega arith

  -- the fact of each put is in the list
  pub is_fact_of : (instance : Inst) (from : ℕ) (puts : List Put) (number : ℕ) (one : Put) → slice_get puts number ≡ Some one → among (put_facts instance from puts) (put_fact instance (from + number) one) ≡ true
  is_fact_of instance from [] number one at = absurd (cc)
  is_fact_of instance from (first ∷ puts) zero one at =
      let same : first ≡ one = cc in
      subst (λ (n : ℕ). among (put_facts instance from (first ∷ puts)) (put_fact instance n one) ≡ true) (no_more from)
      (subst (λ (p : Put). among (put_facts instance from (first ∷ puts)) (put_fact instance from p) ≡ true) same (the_first told (put_fact instance from first) (put_facts instance (suc from) puts)))
    where
      no_more : (n : ℕ) → n ≡ n + 0
      no_more n = omega arith
  is_fact_of instance from (first ∷ puts) (suc number) one at =
      or_right (is_fact (put_fact instance from first) (put_fact instance (from + suc number) one)) (among (put_facts instance (suc from) puts) (put_fact instance (from + suc number) one))
      (subst (λ (n : ℕ). among (put_facts instance (suc from) puts) (put_fact instance n one) ≡ true) (one_more from number) (is_fact_of instance (suc from) puts number one at))
    where
      one_more : (n m : ℕ) → suc n + m ≡ n + suc m
      one_more n m = omega arith

  -- the same of a whole list
  pub each_of_all : (P : Fact → Type 0) (instance : Inst) (puts : List Put) → ((number : ℕ) (one : Put) → slice_get puts number ≡ Some one → P (put_fact instance number one)) → (fact : Fact) → among (put_facts instance 0 puts) fact ≡ true → P fact
  each_of_all P instance puts all = each_fact P instance 0 puts (λ number one at. subst (λ (n : ℕ). P (put_fact instance n one)) (from_zero number) (all number one at))
    where
      from_zero : (n : ℕ) → n ≡ 0 + n
      from_zero n = omega arith

  pub sound_put : (instance : Inst) (number : ℕ) (one : Put) → IsSound (put_fact instance number one)
  sound_put instance number (put.Item address value) = tt
  sound_put instance number (put.Tag name) = tt

-- the facts of a list with one more put
pub facts_with_one : (instance : Inst) (from : ℕ) (puts : List Put) (one : Put) → put_facts instance from (puts ++ one ∷ []) ≡ put_facts instance from puts ++ put_fact instance (from + length puts) one ∷ []
facts_with_one instance from [] one = let same : from ≡ from + 0 = omega arith in ap (λ (n : ℕ). put_fact instance n one ∷ []) same
facts_with_one instance from (first ∷ puts) one =
    let same : suc from + length puts ≡ from + length (first ∷ puts) = omega arith in
    ap (λ (list : List Fact). put_fact instance from first ∷ list) (facts_with_one instance (suc from) puts one ∙ ap (λ (n : ℕ). put_facts instance (suc from) puts ++ put_fact instance n one ∷ []) same)
