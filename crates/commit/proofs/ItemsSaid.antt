-- What a batch puts at an address, as facts that its ends state.
use Rattle.std.proofs.Common.{◌≡◌, ◌∙◌, ◌||◌, ◌<◌, ap, arith, sym, refl, subst, inl, inr, ℕ, zero, suc, ℤ, Bool, true, false, List, [], ◌∷◌, ◌++◌, drop, get_or, length, Option, None, Some}
use Rattle.terms.specs.declared.name.Addr.{Addr}
use Rattle.terms.specs.declared.name.Inst.{Inst}
use Rattle.terms.specs.declared.producer.Producer.TheVariants.{By}
use Rattle.terms.specs.declared.put.Put.{Put}
use Rattle.terms.specs.declared.put.Put.TheVariants as put
use Rattle.terms.specs.declared.event.Event.{Event}
use Rattle.terms.specs.Facts.{done, event_facts, facts, item, put_fact, put_facts}
use Rattle.terms.specs.Sets.{AmongBoth, OneFact, among, stated}
use Rattle.graph.specs.Fits.{IsAbsent}
use Rattle.machine.specs.Machine.{IsValueAt}
use Rattle.machine.specs.Meaning.{items}
use Rattle.machine.proofs.Absent.{in_either, nowhere}
use Rattle.machine.proofs.PutFacts.{item_is_put}
use Rattle.machine.proofs.Sets.{behind_first, of_list, or_left, or_right, the_first}
use Rattle.commit.specs.declared.outcome.Outcome.{Outcome}
use Rattle.commit.specs.declared.outcome.Outcome.TheVariants.{Gave, Fault}
use Rattle.commit.specs.Batch.{end_said, ends_by}
use Rattle.commit.specs.PutAs.{IsPutAs, puts_said}

-- ---- a list of puts

-- where none is put by the first, and none by the others, none is put
pub none_more : (address : Addr) (first : Put) (others : List Put) → IsPutAs (first ∷ []) address None → IsPutAs others address None → IsPutAs (first ∷ others) address None
none_more address first others one more is = elim (in_either address first others is) [ inl here ↦ one here | inr later ↦ more later ]

-- what the first puts, all put; and so what the others put
pub first_puts : (address : Addr) (value : ℤ) (first : Put) (others : List Put) → IsPutAs (first ∷ []) address (Some value) → IsPutAs (first ∷ others) address (Some value)
first_puts address value first others ([], behind, is) = ([], others, ap (λ (p : Put). p ∷ others) (head is))
  where
    head : first ∷ [] ≡ put.Item address value ∷ behind → first ≡ put.Item address value
    head is = cc
first_puts address value first others (other ∷ before, behind, is) = absurd (no_more before behind is)
  where
    no_more : (before behind : List Put) → first ∷ [] ≡ other ∷ (before ++ put.Item address value ∷ behind) → ⊥
    no_more [] behind is = cc
    no_more (x ∷ xs) behind is = cc

pub others_put : (address : Addr) (value : ℤ) (first : Put) (others : List Put) → IsPutAs others address (Some value) → IsPutAs (first ∷ others) address (Some value)
others_put address value first others it = (first ∷ it.0, it.1, ap (λ (list : List Put). first ∷ list) it.2)

-- no puts put nothing
pub none_puts : (address : Addr) → IsPutAs [] address None
none_puts address is = nowhere address is.0 is.1 is.2

no_item : (address : Addr) (value : ℤ) (before behind : List Put) → [] ≡ before ++ put.Item address value ∷ behind → ⊥
no_item address value [] behind is = cc
no_item address value (x ∷ xs) behind is = cc

-- ---- the facts of an outcome

not_true : (b : Bool) → (b ≡ true → ⊥) → b ≡ false
not_true true none = absurd (none refl)
not_true false none = refl

module _ (told : OneFact) where
  there_among : (instance : Inst) (number : ℕ) (before : List Put) (address : Addr) (value : ℤ) (behind : List Put)
      → (m : ℕ) × (among (put_facts instance number (before ++ put.Item address value ∷ behind)) (item address value (By instance m)) ≡ true)
  there_among instance number [] address value behind = (number, the_first told (item address value (By instance number)) (put_facts instance (suc number) behind))
  there_among instance number (first ∷ before) address value behind =
      let it = there_among instance (suc number) before address value behind in
      (it.0, behind_first told (put_fact instance number first) (put_facts instance (suc number) (before ++ put.Item address value ∷ behind)) (item address value (By instance it.0)) it.1)

  value_of : (instance : Inst) (outcome : Outcome) (address : Addr) (value : ℤ) → IsPutAs (puts_said outcome) address (Some value) → items (among (event_facts (end_said instance outcome))) address value
  value_of instance (Gave given) address value it =
      let at = there_among instance 0 it.0 address value it.1 in (
        By instance at.0,
        subst (λ (puts : List Put). among (done instance ∷ put_facts instance 0 puts) (item address value (By instance at.0)) ≡ true) (sym it.2)
            (behind_first told (done instance) (put_facts instance 0 (it.0 ++ put.Item address value ∷ it.1)) (item address value (By instance at.0)) at.1),
      )
  value_of instance (Fault bad) address value it = absurd (no_item address value it.0 it.1 it.2)

  none_of : (instance : Inst) (outcome : Outcome) (address : Addr) → IsPutAs (puts_said outcome) address None → IsAbsent (among (event_facts (end_said instance outcome))) address
  none_of instance (Gave given) address none value by =
      not_true (among (done instance ∷ put_facts instance 0 given.puts) (item address value by)) (λ there.
      elim (of_list told (done instance) (put_facts instance 0 given.puts) (item address value by) there) [
        | inl is ↦ absurd (cc)
        | inr later ↦ none (item_is_put told instance 0 given.puts address value by later).0
      ])
  none_of instance (Fault bad) address none value by = refl

  -- what an outcome puts there is there among its facts, and nothing else
  pub value_said : (instance : Inst) (outcome : Outcome) (address : Addr) (found : Option ℤ) → IsPutAs (puts_said outcome) address found → IsValueAt (among (event_facts (end_said instance outcome))) address found
  value_said instance outcome address None none = none_of instance outcome address none
  value_said instance outcome address (Some value) it = value_of instance outcome address value it

-- ---- the facts of a list of ends

module _ (both : AmongBoth) where
  pub absent_more : (first : Event) (others : List Event) (address : Addr) → IsAbsent (among (event_facts first)) address → IsAbsent (stated others) address → IsAbsent (stated (first ∷ others)) address
  absent_more first others address one more value by =
      both (event_facts first) (facts others) (item address value by) ∙ none_of_two (among (event_facts first) (item address value by)) (among (facts others) (item address value by)) (one value by) (more value by)
    where
      none_of_two : (a b : Bool) → a ≡ false → b ≡ false → (a || b) ≡ false
      none_of_two true b one two = one
      none_of_two false b one two = two

  pub first_states : (first : Event) (others : List Event) (address : Addr) (value : ℤ) → items (among (event_facts first)) address value → items (stated (first ∷ others)) address value
  first_states first others address value it =
      (it.0, both (event_facts first) (facts others) (item address value it.0) ∙ or_left (among (event_facts first) (item address value it.0)) (among (facts others) (item address value it.0)) it.1)

  pub others_state : (first : Event) (others : List Event) (address : Addr) (value : ℤ) → items (stated others) address value → items (stated (first ∷ others)) address value
  others_state first others address value it =
      (it.0, both (event_facts first) (facts others) (item address value it.0) ∙ or_right (among (event_facts first) (item address value it.0)) (among (facts others) (item address value it.0)) it.1)

-- ---- a batch, pair by pair

-- the end of the pair at a place, before those of the pairs after it
pub end_at : (n : ℕ) (tasks : List Inst) (outcomes : List Outcome) (one : Outcome) → length outcomes ≡ length tasks → n < length outcomes → one ≡ get_or outcomes n one
    → (task : Inst) × (ends_by (drop n tasks) (drop n outcomes) ≡ end_said task one ∷ ends_by (drop (suc n) tasks) (drop (suc n) outcomes))
end_at n [] [] one even within is = absurd (omega (arith, within))
end_at n [] (outcome ∷ outcomes) one even within is = absurd (omega (arith, even))
end_at n (task ∷ tasks) [] one even within is = absurd (omega (arith, within))
end_at zero (task ∷ tasks) (outcome ∷ outcomes) one even within is = (task, ap (λ (o : Outcome). end_said task o ∷ ends_by tasks outcomes) (sym is))
end_at (suc n) (task ∷ tasks) (outcome ∷ outcomes) one even within is = end_at n tasks outcomes one (omega (arith, even)) (omega (arith, within)) is

-- without an outcome there is no end
pub no_ends : (tasks : List Inst) → ends_by tasks [] ≡ []
no_ends [] = refl
no_ends (task ∷ tasks) = refl

-- what the ends from a place on state, all state
pub in_all : AmongBoth → (n : ℕ) (tasks : List Inst) (outcomes : List Outcome) (address : Addr) (value : ℤ) → items (stated (ends_by (drop n tasks) (drop n outcomes))) address value → items (stated (ends_by tasks outcomes)) address value
in_all both zero tasks outcomes address value it = it
in_all both (suc n) [] outcomes address value it = it
in_all both (suc n) (task ∷ tasks) [] address value it = subst (λ (list : List Event). items (stated list) address value) (no_ends (drop n tasks)) it
in_all both (suc n) (task ∷ tasks) (outcome ∷ outcomes) address value it =
    others_state both (end_said task outcome) (ends_by tasks outcomes) address value (in_all both n tasks outcomes address value it)
