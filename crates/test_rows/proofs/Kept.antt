-- Outcomes that are kept, while instances are claimed and given back.
use Rattle.std.proofs.Common.{◌≡◌, ◌∙◌, ◌||◌, ◌++◌, ap, sym, refl, subst, ℕ, Bool, true, false, List, [], ◌∷◌, Option, None, Some, IfSome}
use Rattle.std.proofs.lemmas.Bool.{or_parts}
use Rattle.std.specs.Cmp.{IsTotalOrder}
use Rattle.std.specs.FinMap.{IsAntisymmetric}
use Rattle.std.specs.List.{AllByRecursion}
use Rattle.std.specs.Ordering.{eq_by_cmp}
use Rattle.terms.specs.declared.name.Inst.{Inst}
use Rattle.terms.specs.Name.{inst_cmp}
use Rattle.terms.specs.Sets.{AmongBoth, Facts}
use Rattle.graph.specs.Graph.{Graph}
use Rattle.items.specs.Once.{is_one_of, once_more}
use Rattle.instances.specs.declared.state.State.{State}
use Rattle.instances.specs.declared.state.State.TheVariants.{Ready, Running}
use Rattle.machine.specs.Results.{ReadsStay}
use Rattle.machine.proofs.StillRunning.{apart}
use Rattle.machine.proofs.Woken.{one_instance}
use Rattle.commit.specs.declared.outcome.Outcome.{Outcome}
use Rattle.commit.proofs.Outcomes.{in_both, outcome_within, outcomes_more}
use Rattle.commit.specs.Batch.{AreOutcomesOf, Batch, HaveOutcomes, facts_with}
use Rattle.commit.specs.Came.{IsOutcomeIn}
use Rattle.commit.specs.Core.{Core, facts, graph, state_of}
use Rattle.commit.specs.Steps.{MayClaim, Moves}
use Rattle.test_rows.specs.Apart.{AreOutcomesApart}

-- ---- one more outcome, behind the others

one_more : (P : Inst → Type 0) (list : List Inst) (one : Inst) → AllByRecursion P list → P one → AllByRecursion P (list ++ one ∷ [])
one_more P [] one all is = (is, tt)
one_more P (first ∷ others) one all is = (all.0, one_more P others one all.1 is)

pub alone : {D : Type 0} (c : Core D) (batch : Batch) (task : Inst) (outcome : Outcome) → batch ≡ record { tasks = task ∷ []; outcomes = outcome ∷ [] } → state_of c task ≡ Some Running → IsOutcomeIn (graph c) (facts c) task outcome → AreOutcomesOf c batch
alone c batch task outcome is runs came = subst (AreOutcomesOf c) (sym is) (record { running = record { each = (runs, tt); once = (refl, tt) }; outcomes = (came, tt) })

pub added : AmongBoth → ReadsStay → IsTotalOrder inst_cmp → {D : Type 0} (c : Core D) (old new : Batch) (task : Inst) (outcome : Outcome) → new.tasks ≡ old.tasks ++ task ∷ [] → new.outcomes ≡ old.outcomes ++ outcome ∷ []
    → state_of c task ≡ Some Running → IsOutcomeIn (graph c) (facts c) task outcome → AreOutcomesApart c task old → AreOutcomesOf c new
added both stay total c old new task outcome tasks outcomes runs came kept = record {
  running = record {
    each = subst (AllByRecursion (λ instance. state_of c instance ≡ Some Running)) (sym tasks) (one_more (λ instance. state_of c instance ≡ Some Running) old.tasks task kept.may.running.each runs);
    once = rw tasks (once_more total old.tasks task kept.may.running.once kept.apart);
  };
  outcomes =
      subst (λ (at : List Inst × List Outcome). HaveOutcomes (graph c) (facts c) at.0 at.1) (λ i. (sym tasks i, sym outcomes i))
      (outcomes_more both stay (graph c) (facts c) old.tasks old.outcomes task outcome kept.may.outcomes
      (outcome_within stay (graph c) (facts c) (facts_with (facts c) (Some old)) (in_both (facts c) (Some old)) task outcome came));
}

-- ---- another instance is claimed or given back

not_both : Some Ready ≡ Some Running → ⊥
not_both same = cc

module _ (total : IsTotalOrder inst_cmp) (tie : IsAntisymmetric inst_cmp) where
  -- an instance that is ready is none of those that run
  ready_apart : {D : Type 0} (c : Core D) (task : Inst) (list : List Inst) → state_of c task ≡ Some Ready → AllByRecursion (λ instance. state_of c instance ≡ Some Running) list → is_one_of task list ≡ false
  ready_apart c task [] ready all = refl
  ready_apart c task (first ∷ others) ready all = ap (λ b. b || is_one_of task others) (differs (eq_by_cmp inst_cmp task first) refl) ∙ ready_apart c task others ready all.1
    where
      differs : (b : Bool) → eq_by_cmp inst_cmp task first ≡ b → b ≡ false
      differs true is = absurd (not_both (sym ready ∙ ap (state_of c) (one_instance total tie task first is) ∙ all.0))
      differs false is = refl

  -- those that run, of which this is none, still run when it has moved
  all_stay : {D : Type 0} (old new : Core D) (task : Inst) (to : State) (list : List Inst) → Moves old new task to → is_one_of task list ≡ false
      → AllByRecursion (λ instance. state_of old instance ≡ Some Running) list → AllByRecursion (λ instance. state_of new instance ≡ Some Running) list
  all_stay old new task to [] moves absent all = tt
  all_stay old new task to (first ∷ others) moves absent all =
      let parts = or_parts (eq_by_cmp inst_cmp task first) (is_one_of task others) absent in
      (moves.machine.others first (apart total tie task first parts.0) ∙ all.0, all_stay old new task to others moves parts.1 all.1)

  pub moved : {D : Type 0} (old new : Core D) (task : Inst) (to : State) (batch : Batch) → Moves old new task to → AreOutcomesApart old task batch → AreOutcomesOf new batch
  moved old new task to batch moves kept = record {
    running = record { each = all_stay old new task to batch.tasks moves kept.apart kept.may.running.each; once = kept.may.running.once };
    outcomes = subst (λ (at : Graph × Facts). HaveOutcomes at.0 at.1 batch.tasks batch.outcomes) (λ i. (sym moves.machine.graph i, λ fact. sym (moves.machine.facts fact) i)) kept.may.outcomes;
  }

  -- the same for what is kept, if anything is
  pub kept_moved : {D : Type 0} (old new : Core D) (task : Inst) (to : State) (kept : Option Batch) → Moves old new task to → IfSome kept (AreOutcomesApart old task) → IfSome kept (AreOutcomesOf new)
  kept_moved old new task to None moves kept = tt
  kept_moved old new task to (Some batch) moves kept = moved old new task to batch moves kept

  -- an instance that was ready is claimed
  pub claimed : {D : Type 0} (old new : Core D) (at : ℕ) (taken : Option Inst) (task : Inst) (kept : Option Batch) → taken ≡ Some task
      → IfSome taken (λ task. MayClaim old at × (state_of old task ≡ Some Ready) × Moves old new task Running) → IfSome kept (AreOutcomesOf old) → IfSome kept (AreOutcomesApart new task)
  claimed old new at taken task None is claims may = tt
  claimed old new at taken task (Some batch) is claims may =
      let claim = subst (λ (o : Option Inst). IfSome o (λ task. MayClaim old at × (state_of old task ≡ Some Ready) × Moves old new task Running)) is claims in
      let absent : is_one_of task batch.tasks ≡ false = ready_apart old task batch.tasks claim.1 may.running.each in
      record { may = moved old new task Running batch claim.2 (record { may = may; apart = absent }); apart = absent }
