-- The outcomes of a batch that is given to a hub, comes back, and is taken apart.
use Rattle.std.proofs.Common.{◌≡◌, ◌++◌, ◌∷◌, [], sym, subst, List, Option, None, Some, IfSome, Result, Err}
use mathlib.Core.List.{IsPrefix}
use Rattle.terms.specs.Facts.{FactsGoOn, event_facts}
use Rattle.terms.specs.Sets.{AmongBoth, Facts, among, with_facts}
use Rattle.terms.specs.declared.name.Inst.{Inst}
use Rattle.graph.specs.Graph.{Graph}
use Rattle.machine.specs.declared.group.Ended.{Ended}
use Rattle.machine.specs.Results.{ReadsStay}
use Rattle.machine.proofs.Sets.{Within, or_left}
use Rattle.commit.specs.declared.error.CoreError.{CoreError}
use Rattle.commit.specs.declared.outcome.Outcome.{Outcome}
use Rattle.commit.proofs.Outcomes.{outcome_within}
use Rattle.commit.specs.Batch.{Batch, HaveOutcomes, HavePopped, end_said}
use Rattle.commit.specs.Came.{IsOutcomeIn}
use Rattle.passes.specs.Known.{Known}
use Rattle.passes.specs.Opening.{Opening}
use Rattle.hub.specs.declared.error.BatchError.{BatchError}
use Rattle.hub.specs.declared.error.BatchError.TheVariants.{Foreign}
use Rattle.hub.specs.Batches.{OnBatch}
use Rattle.hub.specs.Opening.{facts_behind}
use Rattle.hub.proofs.States.{stays}
use Rattle.test_threads.specs.Alone.{AreAlone}

-- ---- outcomes that are over the state alone

pub alone_within : ReadsStay → (g : Graph) (X Y : Facts) → Within X Y → (tasks : List Inst) (outcomes : List Outcome) → AreAlone g X tasks outcomes → AreAlone g Y tasks outcomes
alone_within stay g X Y within [] [] are = tt
alone_within stay g X Y within [] (outcome ∷ outcomes) are = absurd are
alone_within stay g X Y within (task ∷ tasks) [] are = absurd are
alone_within stay g X Y within (task ∷ tasks) (outcome ∷ outcomes) are = (outcome_within stay g X Y within task outcome are.0, alone_within stay g X Y within tasks outcomes are.1)

alone_more : (g : Graph) (X : Facts) (tasks : List Inst) (outcomes : List Outcome) (task : Inst) (outcome : Outcome) → AreAlone g X tasks outcomes → IsOutcomeIn g X task outcome → AreAlone g X (tasks ++ task ∷ []) (outcomes ++ outcome ∷ [])
alone_more g X [] [] task outcome are is = (is, tt)
alone_more g X [] (other ∷ outcomes) task outcome are is = absurd are
alone_more g X (other ∷ tasks) [] task outcome are is = absurd are
alone_more g X (other ∷ tasks) (came ∷ outcomes) task outcome are is = (are.0, alone_more g X tasks outcomes task outcome are.1 is)

-- they may be committed together
pub have : ReadsStay → (g : Graph) (X : Facts) (tasks : List Inst) (outcomes : List Outcome) → AreAlone g X tasks outcomes → HaveOutcomes g X tasks outcomes
have stay g X [] [] are = tt
have stay g X [] (outcome ∷ outcomes) are = absurd are
have stay g X (task ∷ tasks) [] are = absurd are
have stay g X (task ∷ tasks) (outcome ∷ outcomes) are =
    let more = event_facts (end_said task outcome) in
    (are.0, have stay g (with_facts X more) tasks outcomes (alone_within stay g X (with_facts X more) (λ fact there. or_left (X fact) (among more fact) there) tasks outcomes are.1))

-- ---- a batch is made longer

-- one more, behind the others, when the pass has seen more
pub added : AmongBoth → FactsGoOn → ReadsStay → (opening : Opening) (before known : Known) (old new : Batch) (task : Inst) (outcome : Outcome) → IsPrefix before.seen known.seen
    → new.tasks ≡ old.tasks ++ task ∷ [] → new.outcomes ≡ old.outcomes ++ outcome ∷ [] → AreAlone opening.graph (facts_behind opening before.seen) old.tasks old.outcomes
    → IsOutcomeIn opening.graph (facts_behind opening known.seen) task outcome → AreAlone opening.graph (facts_behind opening known.seen) new.tasks new.outcomes
added both go_on stay opening before known old new task outcome begins tasks outcomes have came =
    subst (λ (at : List Inst × List Outcome). AreAlone opening.graph (facts_behind opening known.seen) at.0 at.1) (λ i. (sym tasks i, sym outcomes i))
    (alone_more opening.graph (facts_behind opening known.seen) old.tasks old.outcomes task outcome
    (alone_within stay opening.graph (facts_behind opening before.seen) (facts_behind opening known.seen) (stays both go_on opening before.seen known.seen begins) old.tasks old.outcomes have) came)

-- it comes back as it was
pub back_of : (batch back : Batch) (error : BatchError) (answers : Result Ended CoreError → Type 0) → error ≡ Foreign back → OnBatch (Err error) (λ b. b ≡ batch) answers → back ≡ batch
back_of batch back error answers is told = subst (λ (e : BatchError). OnBatch (Err e) (λ b. b ≡ batch) answers) is told

pub back_whole : AmongBoth → FactsGoOn → ReadsStay → (opening : Opening) (before known : Known) (batch back : Batch) → IsPrefix before.seen known.seen → back ≡ batch
    → AreAlone opening.graph (facts_behind opening before.seen) batch.tasks batch.outcomes → AreAlone opening.graph (facts_behind opening known.seen) back.tasks back.outcomes
back_whole both go_on stay opening before known batch back begins is have =
    subst (λ (b : Batch). AreAlone opening.graph (facts_behind opening known.seen) b.tasks b.outcomes) (sym is)
    (alone_within stay opening.graph (facts_behind opening before.seen) (facts_behind opening known.seen) (stays both go_on opening before.seen known.seen begins) batch.tasks batch.outcomes have)

-- ---- it is taken apart

module _ (g : Graph) (X : Facts) where
  no_outcome : (outcomes : List Outcome) (outcome : Outcome) → AreAlone g X [] (outcomes ++ outcome ∷ []) → ⊥
  no_outcome [] outcome have = have
  no_outcome (other ∷ outcomes) outcome have = have

  no_task : (tasks : List Inst) (task : Inst) → AreAlone g X (tasks ++ task ∷ []) [] → ⊥
  no_task [] task have = have
  no_task (other ∷ tasks) task have = have

  last : (tasks : List Inst) (outcomes : List Outcome) (task : Inst) (outcome : Outcome) → AreAlone g X (tasks ++ task ∷ []) (outcomes ++ outcome ∷ []) → AreAlone g X tasks outcomes × IsOutcomeIn g X task outcome
  last [] [] task outcome have = (tt, have.0)
  last [] (other ∷ outcomes) task outcome have = absurd (no_outcome outcomes outcome have.1)
  last (other ∷ tasks) [] task outcome have = absurd (no_task tasks task have.1)
  last (other ∷ tasks) (came ∷ outcomes) task outcome have = let more = last tasks outcomes task outcome have.1 in ((have.0, more.0), more.1)

  -- the last outcome, and those that are left, if there are any
  pub popped : (batch : Batch) (task : Inst) (outcome : Outcome) (others : Option Batch) → HavePopped batch task outcome others → AreAlone g X batch.tasks batch.outcomes
      → IsOutcomeIn g X task outcome × IfSome others (λ rest. AreAlone g X rest.tasks rest.outcomes)
  popped batch task outcome None were have =
      let here : AreAlone g X (task ∷ []) (outcome ∷ []) = subst (λ (at : List Inst × List Outcome). AreAlone g X at.0 at.1) (λ i. (were.0 i, were.1 i)) have in
      (here.0, tt)
  popped batch task outcome (Some rest) were have =
      let here : AreAlone g X (rest.tasks ++ task ∷ []) (rest.outcomes ++ outcome ∷ []) = subst (λ (at : List Inst × List Outcome). AreAlone g X at.0 at.1) (λ i. (were.0 i, were.1 i)) have in
      let parts = last rest.tasks rest.outcomes task outcome here in
      (parts.1, parts.0)
