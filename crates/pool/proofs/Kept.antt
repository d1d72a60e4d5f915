-- What a worker keeps, and what it knows of a refusal.
use Rattle.std.proofs.Common.{◌≡◌, ◌∙◌, ◌⊎◌, ◌≤◌, ◌++◌, ℕ, zero, suc, Bool, true, false, refl, List, [], ◌∷◌, length, take, drop, take-append-drop, Option, Some, None, IfSome, MatchOption, Result, Ok, Err, IfOk, IfErr, IsErrOf, ap, inl, inr, is_some, not, sym, subst}
use Rattle.std.proofs.lemmas.Bool.{false≢true}
use mathlib.Core.List.{IsPrefix}
use Rattle.std.specs.List.{AllByRecursion}
use Rattle.terms.specs.declared.name.Inst.{Inst}
use Rattle.terms.specs.declared.event.Event.{Event}
use Rattle.terms.specs.declared.event.Event.TheVariants as event
use Rattle.terms.specs.declared.fault.FaultKind.{FaultKind}
use Rattle.terms.specs.Commits.{Commit}
use Rattle.terms.specs.Facts.{Fact, FactsGoOn, facts}
use Rattle.terms.specs.Sets.{AmongBoth, Facts, with_facts}
use Rattle.graph.specs.Fits.{InstanceIsOf}
use Rattle.graph.specs.Graph.{Graph}
use Rattle.machine.specs.declared.group.Ended.{Ended}
use Rattle.machine.specs.Group.{StopsAt, cut, stop_at, stopped_as}
use Rattle.machine.specs.Results.{ReadsStay}
use Rattle.machine.proofs.Sets.{Within}
use Rattle.commit.specs.declared.error.CoreError.TheVariants.{Store}
use Rattle.vault.specs.declared.error.VaultError.TheVariants.{Full}
use Rattle.commit.specs.declared.outcome.Outcome.{Outcome}
use Rattle.commit.specs.declared.outcome.Outcome.TheVariants.{Gave, Fault}
use Rattle.commit.proofs.Outcomes.{in_both, more_within, outcome_within, outcomes_more}
use Rattle.commit.specs.Batch.{Batch, HaveOutcomes, end_said, ends_by, ends_said, facts_with}
use Rattle.commit.specs.Came.{IsOutcomeIn}
use Rattle.commit.specs.Runs.{IsEnd, MetFull}
use Rattle.passes.specs.Known.{Known}
use Rattle.passes.specs.Opening.{Opening}
use Rattle.passes.proofs.Gathered.{all_of_both}
use Rattle.passes.proofs.Lists.{prefix_further, prefix_self}
use Rattle.steplang.specs.Running.{Running}
use Rattle.hub.specs.Batches.{AddsTogether, HaveNoRoom, OnBatch, RefusesTogether}
use Rattle.hub.specs.Claims.{AddsClaimed}
use Rattle.hub.specs.Opening.{end_behind, facts_behind}
use Rattle.hub.specs.Replies.{MayRun}
use Rattle.hub.specs.Running.{WaitsIn}
use Rattle.hub.proofs.States.{facts_more, stays}
use Rattle.hub.proofs.Batches.{outcomes_stay, some_come}
use Rattle.pool.specs.declared.worker.Met.{Met}
use Rattle.pool.specs.declared.worker.Met.TheVariants as met
use Rattle.hub.specs.declared.error.BatchError.{BatchError}
use Rattle.hub.specs.declared.error.BatchError.TheVariants as batch_error
use Rattle.pool.specs.Worked.{came_after, AreClaimed, AreKept, IsTurned, Justifies, SawFull, turned_by}

-- ---- what is kept

-- it is still so when the pass has seen more
pub kept_stay : AmongBoth → FactsGoOn → ReadsStay → (opening : Opening) (old new : Known) (kept : Option Batch) → IsPrefix old.seen new.seen → AreKept opening old kept → AreKept opening new kept
kept_stay both go_on stay opening old new None begins are = tt
kept_stay both go_on stay opening old new (Some batch) begins are = record {
  few = are.few;
  outcomes = outcomes_stay both go_on stay opening old.seen new.seen begins batch.tasks batch.outcomes are.outcomes;
}

-- ---- what is claimed

of_graph : (opening : Opening) (known : Known) (list : List Inst) → AllByRecursion (MayRun opening known) list → AllByRecursion (InstanceIsOf opening.graph) list
of_graph opening known [] all = tt
of_graph opening known (task ∷ tasks) all = (all.0.may_end.of_graph, of_graph opening known tasks all.1)

-- more are claimed
pub claimed_more : (opening : Opening) (known : Known) (most : ℕ) (old new : List Inst) → AddsClaimed opening known most old new → AreClaimed opening old → AreClaimed opening new
claimed_more opening known most old new adds are =
    subst (AreClaimed opening) (sym adds.added) (all_of_both (InstanceIsOf opening.graph) old adds.more are (of_graph opening known adds.more adds.may_run))

-- the first one is taken, if there is one
pub first_taken : (opening : Opening) (first : Option Inst) (old new : List Inst) → MatchOption first ((old ≡ []) × (new ≡ [])) (λ task. old ≡ task ∷ new) → AreClaimed opening old → AreClaimed opening new × IfSome first (InstanceIsOf opening.graph)
first_taken opening None old new is are = (subst (AreClaimed opening) (sym is.1) tt, tt)
first_taken opening (Some task) old new is are =
    let both = subst (AreClaimed opening) is are in
    (both.1, both.0)

parts_of_both : (such : Inst → Type 0) (one two : List Inst) → AllByRecursion such (one ++ two) → AllByRecursion such one × AllByRecursion such two
parts_of_both such [] two all = (tt, all)
parts_of_both such (x ∷ one) two all =
    let rest = parts_of_both such one two all.1 in
    ((all.0, rest.0), rest.1)

-- the last one is taken, if there is one
pub last_taken : (opening : Opening) (last : Option Inst) (old new : List Inst) → MatchOption last ((old ≡ []) × (new ≡ [])) (λ task. old ≡ new ++ task ∷ []) → AreClaimed opening old → AreClaimed opening new × IfSome last (InstanceIsOf opening.graph)
last_taken opening None old new is are = (subst (AreClaimed opening) (sym is.1) tt, tt)
last_taken opening (Some task) old new is are =
    let both = parts_of_both (InstanceIsOf opening.graph) new (task ∷ []) (subst (AreClaimed opening) is are) in
    (both.0, both.1.0)

-- ---- what is kept, further

-- the outcomes of a batch with one more
pub added : AmongBoth → ReadsStay → (opening : Opening) (known : Known) (old new : Batch) (task : Inst) (outcome : Outcome) → new.tasks ≡ old.tasks ++ task ∷ [] → new.outcomes ≡ old.outcomes ++ outcome ∷ []
    → HaveOutcomes opening.graph (facts_behind opening known.seen) old.tasks old.outcomes → IsOutcomeIn opening.graph (facts_with (facts_behind opening known.seen) (Some old)) task outcome
    → HaveOutcomes opening.graph (facts_behind opening known.seen) new.tasks new.outcomes
added both stay opening known old new task outcome tasks outcomes have is =
    subst (λ (at : List Inst × List Outcome). HaveOutcomes opening.graph (facts_behind opening known.seen) at.0 at.1) (λ i. (sym tasks i, sym outcomes i))
    (outcomes_more both stay opening.graph (facts_behind opening known.seen) old.tasks old.outcomes task outcome have is)

-- an end alone comes as it is
cut_whole : (events : List Event) (ended : Ended) → StopsAt ended.stopped (drop ended.done events) → ended.stopped ≡ None → cut ended events ≡ events
cut_whole events ended stops none =
    let nothing : drop ended.done events ≡ [] = subst (λ (o : Option FaultKind). StopsAt o (drop ended.done events)) none stops in
    ap (λ (o : Option FaultKind). take ended.done events ++ stop_at o (drop ended.done events)) none
    ∙ ap (λ (rest : List Event). take ended.done events ++ rest) (sym nothing) ∙ take-append-drop ended.done events

-- once all of a batch came as it is, what it puts is in the state that the pass knows
pub all_there : AmongBoth → FactsGoOn → (opening : Opening) (old new : Known) (batch : Batch) (ended : Ended) → AddsTogether opening (ends_said batch) old new ended → ended.stopped ≡ None
    → (fact : Fact) → facts_with (facts_behind opening old.seen) (Some batch) fact ≡ true → facts_behind opening new.seen fact ≡ true
all_there both go_on opening old new batch ended adds none fact there =
    let ends = ends_said batch in
    let before = adds.adds.before in
    let whole = cut_whole ends ended adds.together.stops none in
    subst (λ (seen : List Commit). facts_behind opening seen fact ≡ true) (sym adds.adds.ends)
    (ap (λ (X : Facts). X fact) (facts_more both go_on opening before (cut ended ends))
    ∙ more_within (facts_behind opening old.seen) (facts_behind opening before) (facts (cut ended ends)) (stays both go_on opening old.seen before adds.adds.starts) fact
    (subst (λ (list : List Event). with_facts (facts_behind opening old.seen) (facts list) fact ≡ true) (sym whole) there))

-- what waits over items of a set waits over more of them
pub waits_within : ReadsStay → (g : Graph) (X Y : Facts) → Within X Y → (instance : Inst) (run : Running) → WaitsIn g X instance run → WaitsIn g Y instance run
waits_within stay g X Y within instance run waits = record {
  instance_is = waits.instance_is;
  body = waits.body;
  reads = stay X Y run.reads within waits.reads;
  address = waits.address;
  awaits = waits.awaits;
  asks = waits.asks;
}

-- a result over what is lent is one over what is kept
pub over_kept : ReadsStay → (opening : Opening) (known : Known) (kept lent : Option Batch) (task : Inst) (outcome : Outcome) → (lent ≡ None) ⊎ (lent ≡ kept)
    → IsOutcomeIn opening.graph (facts_with (facts_behind opening known.seen) lent) task outcome → IsOutcomeIn opening.graph (facts_with (facts_behind opening known.seen) kept) task outcome
over_kept stay opening known kept lent task outcome (inl none) is =
    outcome_within stay opening.graph (facts_behind opening known.seen) (facts_with (facts_behind opening known.seen) kept) (in_both (facts_behind opening known.seen) kept) task outcome
    (subst (λ (o : Option Batch). IsOutcomeIn opening.graph (facts_with (facts_behind opening known.seen) o) task outcome) none is)
over_kept stay opening known kept lent task outcome (inr same) is = subst (λ (o : Option Batch). IsOutcomeIn opening.graph (facts_with (facts_behind opening known.seen) o) task outcome) same is

pub waits_over_kept : ReadsStay → (opening : Opening) (known : Known) (kept lent : Option Batch) (task : Inst) (run : Running) → (lent ≡ None) ⊎ (lent ≡ kept)
    → WaitsIn opening.graph (facts_with (facts_behind opening known.seen) lent) task run → WaitsIn opening.graph (facts_with (facts_behind opening known.seen) kept) task run
waits_over_kept stay opening known kept lent task run (inl none) is =
    waits_within stay opening.graph (facts_behind opening known.seen) (facts_with (facts_behind opening known.seen) kept) (in_both (facts_behind opening known.seen) kept) task run
    (subst (λ (o : Option Batch). WaitsIn opening.graph (facts_with (facts_behind opening known.seen) o) task run) none is)
waits_over_kept stay opening known kept lent task run (inr same) is = subst (λ (o : Option Batch). WaitsIn opening.graph (facts_with (facts_behind opening known.seen) o) task run) same is

-- a worker that met something ends, and another goes on
pub turned : (opening : Opening) (known : Known) (met : Option Met) → Justifies opening met known → IsTurned opening known (turned_by met)
turned opening known None full = tt
turned opening known (Some met) full = full

-- what justified it in commits that a pass has seen does so when it has seen more
pub justified_further : (opening : Opening) (seen : List Commit) (new : Known) (result : Option Met) → IsPrefix seen new.seen → (result ≡ Some met.Full → MetFull opening.graph opening.facts opening.end seen) → Justifies opening result new
justified_further opening seen new result begins full is =
    let saw = full is in
    record {
      before = saw.before;
      starts = prefix_further saw.before seen new.seen saw.starts begins;
      refused = saw.refused;
      some = saw.some;
      are_ends = saw.are_ends;
      legal = saw.legal;
      too_long = saw.too_long;
    }

-- ---- a record of several ends that does not fit

said_is_end : (task : Inst) (outcome : Outcome) → IsEnd (end_said task outcome)
said_is_end task (Gave given) = tt
said_is_end task (Fault bad) = tt

said_are_ends : (tasks : List Inst) (outcomes : List Outcome) → AllByRecursion IsEnd (ends_by tasks outcomes)
said_are_ends [] outcomes = tt
said_are_ends (task ∷ tasks) [] = tt
said_are_ends (task ∷ tasks) (outcome ∷ outcomes) = (said_is_end task outcome, said_are_ends tasks outcomes)

stopped_is_end : (kind : FaultKind) (end : Event) → IsEnd end → IsEnd (stopped_as kind end)
stopped_is_end kind (event.EnvItem address value) is = absurd is
stopped_is_end kind (event.EnvTag name) is = absurd is
stopped_is_end kind (event.Done instance puts) is = tt
stopped_is_end kind (event.Stopped instance own) is = tt

cut_are_ends : (done : ℕ) (stopped : Option FaultKind) (ends : List Event) → AllByRecursion IsEnd ends → AllByRecursion IsEnd (take done ends ++ stop_at stopped (drop done ends))
cut_are_ends zero None ends all = tt
cut_are_ends zero (Some kind) [] all = tt
cut_are_ends zero (Some kind) (end ∷ ends) all = (stopped_is_end kind end all.0, tt)
cut_are_ends (suc done) None [] all = tt
cut_are_ends (suc done) (Some kind) [] all = tt
cut_are_ends (suc done) stopped (end ∷ ends) all = (all.0, cut_are_ends done stopped ends all.1)

-- a batch that does not fit after what a pass has seen
pub saw_batch : (opening : Opening) (old known : Known) (batch : Batch) → 1 ≤ length batch.tasks → HaveOutcomes opening.graph (facts_behind opening old.seen) batch.tasks batch.outcomes
    → HaveNoRoom opening.graph (facts_behind opening known.seen) (end_behind opening known.seen) (ends_said batch) → SawFull opening known
saw_batch opening old known batch some have why = record {
  before = known.seen;
  starts = prefix_self known.seen;
  refused = cut why.ended (ends_said batch);
  some = some_come opening.graph opening.graph (facts_behind opening old.seen) (facts_behind opening known.seen) batch.tasks batch.outcomes why.ended some have why.together;
  are_ends = cut_are_ends why.ended.done why.ended.stopped (ends_said batch) (said_are_ends batch.tasks batch.outcomes);
  legal = why.together.legal;
  too_long = why.too_long;
}

-- if a batch was refused with `Full`, its record did not fit
pub refused_full : (opening : Opening) (old known : Known) (batch : Batch) (answer : Result Ended BatchError) (result : Result Bool Met) → 1 ≤ length batch.tasks → HaveOutcomes opening.graph (facts_behind opening old.seen) batch.tasks batch.outcomes
    → OnBatch answer (λ back. back ≡ batch) (λ called. IfErr called (RefusesTogether opening known (ends_said batch))) → IfErr result (λ one. one ≡ met.Full → IsErrOf answer (batch_error.Refused (Store Full))) → IfErr result (λ one. Justifies opening (Some one) known)
refused_full opening old known batch answer (Ok all) some have refused full = tt
refused_full opening old known batch answer (Err one) some have refused full =
    λ is. saw_batch opening old known batch some have
    (subst (λ (given : Result Ended BatchError). OnBatch given (λ back. back ≡ batch) (λ called. IfErr called (RefusesTogether opening known (ends_said batch)))) (full (value one is)) refused)
  where
    value : (other : Met) → Some other ≡ Some met.Full → other ≡ met.Full
    value other same = cc

-- if no fault came, all did
pub came_as_is : (opening : Opening) (ends : List Event) (old new : Known) (answer : Result Ended BatchError) → IfOk answer (AddsTogether opening ends old new) → came_after answer ≡ Ok true → (ended : Ended) × AddsTogether opening ends old new ended × (ended.stopped ≡ None)
came_as_is opening ends old new (Ok ended) adds all = (ended, adds, none ended.stopped (same (not (is_some ended.stopped)) all))
  where
    same : (b : Bool) → ◌≡◌ {A = Result Bool Met} (Ok b) (Ok true) → b ≡ true
    same b is = cc

    none : (stopped : Option FaultKind) → not (is_some stopped) ≡ true → stopped ≡ None
    none None is = refl
    none (Some kind) is = absurd (false≢true is)
came_as_is opening ends old new (Err (batch_error.Refused error)) adds all = absurd (cc)
came_as_is opening ends old new (Err (batch_error.Foreign back)) adds all = absurd (never all)
  where
    never : ◌≡◌ {A = Result Bool Met} (Ok false) (Ok true) → ⊥
    never is = false≢true (value false is)
      where
        value : (b : Bool) → ◌≡◌ {A = Result Bool Met} (Ok b) (Ok true) → b ≡ true
        value b same = cc
