-- Outcomes of a batch, over more items, and with one more behind them.
use Rattle.std.proofs.Common.{◌≡◌, ◌∙◌, ◌||◌, ap, sym, arith, inl, inr, Bool, true, false, List, [], ◌∷◌, ◌++◌, length, Option, None, Some, refl}
use Rattle.terms.specs.declared.name.Inst.{Inst}
use Rattle.terms.specs.declared.event.Event.{Event}
use Rattle.terms.specs.Facts.{Fact, event_facts, facts}
use Rattle.terms.specs.Sets.{AmongBoth, Facts, among, with_facts}
use Rattle.graph.specs.Graph.{Graph}
use Rattle.machine.specs.Results.{ReadsStay}
use Rattle.machine.proofs.Sets.{Within, either, or_left, or_right}
use Rattle.commit.specs.declared.outcome.Outcome.{Outcome}
use Rattle.commit.specs.declared.outcome.Outcome.TheVariants.{Gave, Fault}
use Rattle.commit.specs.Batch.{Batch, HaveOutcomes, end_said, ends_by, ends_said, facts_with}
use Rattle.commit.specs.Came.{IsOutcomeIn}

-- ---- sets with a batch beside them

pub more_within : (X Y : Facts) (more : List Fact) → Within X Y → Within (with_facts X more) (with_facts Y more)
more_within X Y more within fact there =
    elim (either (X fact) (among more fact) there) [
      | inl here ↦ or_left (Y fact) (among more fact) (within fact here)
      | inr behind ↦ or_right (Y fact) (among more fact) behind
    ]

-- what is in the set is in it with a batch
pub in_both : (X : Facts) (kept : Option Batch) → Within X (facts_with X kept)
in_both X None fact there = there
in_both X (Some batch) fact there = or_left (X fact) (among (facts (ends_said batch)) fact) there

-- and more of the set is more of both
pub more_with : (X Y : Facts) (kept : Option Batch) → Within X Y → Within (facts_with X kept) (facts_with Y kept)
more_with X Y None within = within
more_with X Y (Some batch) within = more_within X Y (facts (ends_said batch)) within

-- ---- more items

pub outcome_within : ReadsStay → (g : Graph) (X Y : Facts) → Within X Y → (task : Inst) (outcome : Outcome) → IsOutcomeIn g X task outcome → IsOutcomeIn g Y task outcome
outcome_within stay g X Y within task (Gave given) is = (is.0, is.1, stay X Y given.reads within is.2)
outcome_within stay g X Y within task (Fault bad) is = (is.0, is.1, stay X Y bad.reads within is.2)

pub outcomes_within : ReadsStay → (g : Graph) (X Y : Facts) → Within X Y → (tasks : List Inst) (outcomes : List Outcome) → HaveOutcomes g X tasks outcomes → HaveOutcomes g Y tasks outcomes
outcomes_within stay g X Y within [] [] have = tt
outcomes_within stay g X Y within [] (outcome ∷ outcomes) have = absurd have
outcomes_within stay g X Y within (task ∷ tasks) [] have = absurd have
outcomes_within stay g X Y within (task ∷ tasks) (outcome ∷ outcomes) have =
    let more = event_facts (end_said task outcome) in
    (outcome_within stay g X Y within task outcome have.0, outcomes_within stay g (with_facts X more) (with_facts Y more) (more_within X Y more within) tasks outcomes have.1)

-- ---- one more outcome

nothing_more : (X : Facts) → Within (with_facts X []) X
nothing_more X fact there = elim (either (X fact) false there) [ inl here ↦ here | inr none ↦ absurd (cc) ]

one_by_one : AmongBoth → (X : Facts) (first : Event) (others : List Event) → Within (with_facts X (facts (first ∷ others))) (with_facts (with_facts X (event_facts first)) (facts others))
one_by_one both X first others fact there = regroup (X fact) (among (event_facts first) fact) (among (facts others) fact) (sym (ap (λ b. X fact || b) (both (event_facts first) (facts others) fact)) ∙ there)
  where
    regroup : (a b c : Bool) → (a || (b || c)) ≡ true → ((a || b) || c) ≡ true
    regroup true b c is = refl
    regroup false b c is = is

-- it is over what the outcomes before it put too
pub outcomes_more : AmongBoth → ReadsStay → (g : Graph) (X : Facts) (tasks : List Inst) (outcomes : List Outcome) (task : Inst) (outcome : Outcome) → HaveOutcomes g X tasks outcomes
    → IsOutcomeIn g (with_facts X (facts (ends_by tasks outcomes))) task outcome → HaveOutcomes g X (tasks ++ task ∷ []) (outcomes ++ outcome ∷ [])
outcomes_more both stay g X [] [] task outcome have is = (outcome_within stay g (with_facts X []) X (nothing_more X) task outcome is, tt)
outcomes_more both stay g X [] (other ∷ outcomes) task outcome have is = absurd have
outcomes_more both stay g X (other ∷ tasks) [] task outcome have is = absurd have
outcomes_more both stay g X (other ∷ tasks) (came ∷ outcomes) task outcome have is =
    let after = with_facts X (event_facts (end_said other came)) in (
      have.0,
      outcomes_more both stay g after tasks outcomes task outcome have.1
          (outcome_within stay g (with_facts X (facts (ends_by (other ∷ tasks) (came ∷ outcomes)))) (with_facts after (facts (ends_by tasks outcomes))) (one_by_one both X (end_said other came) (ends_by tasks outcomes)) task outcome is),
    )

-- ---- outcomes in two parts

-- the first and the others one by one are within what all of them say
as_one : AmongBoth → (X : Facts) (first : Event) (others : List Event) → Within (with_facts (with_facts X (event_facts first)) (facts others)) (with_facts X (facts (first ∷ others)))
as_one both X first others fact there = ap (λ b. X fact || b) (both (event_facts first) (facts others) fact) ∙ regroup (X fact) (among (event_facts first) fact) (among (facts others) fact) there
  where
    regroup : (a b c : Bool) → ((a || b) || c) ≡ true → (a || (b || c)) ≡ true
    regroup true b c is = refl
    regroup false b c is = is

-- what comes after some outcomes is over what these put too
pub divided : AmongBoth → ReadsStay → (g : Graph) (X : Facts) (front : List Inst) (came : List Outcome) (behind : List Inst) (later : List Outcome) → HaveOutcomes g X (front ++ behind) (came ++ later) → length came ≡ length front
    → HaveOutcomes g X front came × HaveOutcomes g (with_facts X (facts (ends_by front came))) behind later
divided both stay g X [] [] behind later have even = (tt, outcomes_within stay g X (with_facts X []) (λ fact there. or_left (X fact) false there) behind later have)
divided both stay g X [] (outcome ∷ came) behind later have even = absurd (omega (arith, even))
divided both stay g X (task ∷ front) [] behind later have even = absurd (omega (arith, even))
divided both stay g X (task ∷ front) (outcome ∷ came) behind later have even =
    let after = with_facts X (event_facts (end_said task outcome)) in
    let rest = divided both stay g after front came behind later have.1 (omega (arith, even)) in (
      (have.0, rest.0),
      outcomes_within stay g (with_facts after (facts (ends_by front came))) (with_facts X (facts (ends_by (task ∷ front) (outcome ∷ came)))) (as_one both X (end_said task outcome) (ends_by front came)) behind later rest.1,
    )
