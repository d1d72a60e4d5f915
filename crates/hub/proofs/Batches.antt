-- Several ends that are committed together.
use Rattle.disk.specs.declared.storage.Disk.{Ghosts}
use Rattle.std.proofs.Common.{◌≡◌, ◌∙◌, ◌+◌, ◌<◌, ◌≤◌, ◌++◌, ⊎_elim, ℕ, zero, suc, false, List, [], ◌∷◌, length, drop, Option, Some, None, refl, sym, ap, subst, arith, Result, Ok, Err}
use Rattle.std.proofs.lemmas.List.{append-nil}
use Rattle.std.specs.List.{AllByRecursion}
use Rattle.disk.specs.declared.side.Side.{Side}
use Rattle.disk.specs.File.{File}
use Rattle.disk.specs.Time.{Contents}
use Rattle.terms.specs.declared.name.Inst.{Inst}
use Rattle.terms.specs.declared.event.Event.{Event}
use Rattle.terms.specs.declared.fault.FaultKind.{FaultKind}
use Rattle.terms.specs.declared.event.Event.TheVariants as event
use Rattle.terms.specs.Commits.{Commit}
use Rattle.terms.specs.Facts.{Fact, FactsGoOn}
use Rattle.terms.specs.Facts as stated
use Rattle.terms.specs.Sets.{Facts, AmongBoth, with_facts}
use Rattle.graph.specs.Fits.{HasNoFault}
use Rattle.graph.specs.Graph.{Graph}
use Rattle.journal.specs.declared.journal.TheConstants.{LIMIT}
use Rattle.machine.specs.declared.group.Ended.{Ended}
use Rattle.machine.specs.Group.{EndsTogether, StopsAt, cut}
use Rattle.machine.specs.Machine.{RefusesEnd}
use Rattle.machine.specs.Results.{ReadsStay}
use Rattle.vault.specs.declared.error.VaultError.TheVariants as vault
use Rattle.commit.specs.declared.error.CoreError.{CoreError}
use Rattle.commit.specs.declared.error.CoreError.TheVariants.{Refused, Store}
use Rattle.commit.specs.declared.outcome.Outcome.{Outcome}
use Rattle.commit.specs.Came.{IsOutcomeIn}
use mathlib.Core.List.{IsPrefix}
use Rattle.commit.specs.Batch.{Batch, EndsAsAnswered, HaveOutcomes, RefusesAll, TellsFullAll, TriesTogether, end_said, ends_by, ends_said, facts_with}
use Rattle.commit.specs.Calls.{AreTooLong, commit_length, step_count}
use Rattle.commit.specs.Core.{Core}
use Rattle.commit.specs.Core as core
use Rattle.commit.specs.Runs.{IsEnd, Runs}
use Rattle.commit.proofs.Lists.{first_ends, given_by_ends}
use Rattle.commit.proofs.Outcomes.{more_with, outcome_within, outcomes_within}
use Rattle.passes.specs.Known.{Desk, Known, Made, commits}
use Rattle.passes.specs.Opening.{Opening}
use Rattle.passes.specs.Rule.{IsInHistory}
use Rattle.passes.specs.Visits.{Shows, Writes}
use Rattle.hub.specs.Batches.{AddsTogether, HaveNoRoom, HaveRoom, RefusesTogether}
use Rattle.hub.specs.Opening.{IsBehind, end_behind, facts_behind, steps_in}
use Rattle.passes.proofs.Lists.{commits_append}
use Rattle.hub.proofs.States.{Comes, stays}
use Rattle.hub.proofs.Telling.{known_end, known_state, seen_stays, writes_from}

-- what the outcomes read is there for the core, or put by those before them
pub outcomes_there : AmongBoth → FactsGoOn → ReadsStay → {D : Type 0} (opening : Opening) (history : List Made) (known : Known) (c : Core D) (tasks : List Inst) (outcomes : List Outcome) → IsBehind opening (commits history) c → IsInHistory history known
    → HaveOutcomes opening.graph (facts_behind opening known.seen) tasks outcomes → HaveOutcomes (core.graph c) (core.facts c) tasks outcomes
outcomes_there both go_on stay opening history known c tasks outcomes behind before have =
    subst (λ (g : Graph). HaveOutcomes g (core.facts c) tasks outcomes) (sym behind.graph)
    (outcomes_within stay opening.graph (facts_behind opening known.seen) (core.facts c) (seen_stays both go_on opening history known c behind before) tasks outcomes have)

-- ---- a pass that has seen more

-- what an outcome read is still there, or put by the batch
pub outcome_stays : AmongBoth → FactsGoOn → ReadsStay → (opening : Opening) (some all : List Commit) → IsPrefix some all → (kept : Option Batch) (task : Inst) (outcome : Outcome)
    → IsOutcomeIn opening.graph (facts_with (facts_behind opening some) kept) task outcome → IsOutcomeIn opening.graph (facts_with (facts_behind opening all) kept) task outcome
outcome_stays both go_on stay opening some all begins kept task outcome is =
    outcome_within stay opening.graph (facts_with (facts_behind opening some) kept) (facts_with (facts_behind opening all) kept)
    (more_with (facts_behind opening some) (facts_behind opening all) kept (stays both go_on opening some all begins)) task outcome is

pub outcomes_stay : AmongBoth → FactsGoOn → ReadsStay → (opening : Opening) (some all : List Commit) → IsPrefix some all → (tasks : List Inst) (outcomes : List Outcome) → HaveOutcomes opening.graph (facts_behind opening some) tasks outcomes
    → HaveOutcomes opening.graph (facts_behind opening all) tasks outcomes
outcomes_stay both go_on stay opening some all begins tasks outcomes have =
    outcomes_within stay opening.graph (facts_behind opening some) (facts_behind opening all) (stays both go_on opening some all begins) tasks outcomes have

-- ---- what comes

one_step : (end : Event) → IsEnd end → step_count end ≡ 1
one_step (event.EnvItem address value) is = absurd is
one_step (event.EnvTag name) is = absurd is
one_step (event.Done instance puts) is = refl
one_step (event.Stopped instance kind) is = refl

-- each end is of one step
all_steps : (ends : List Event) → AllByRecursion IsEnd ends → steps_in ends ≡ length ends
all_steps [] all = omega arith
all_steps (end ∷ ends) all = omega (arith, one_step end all.0, all_steps ends all.1)

-- the ends of a run of one commit
pub are_ends : {D : Type 0} (storage : Ghosts D) (old new : Core D) (commit : Commit)
    → Runs storage old new (commit ∷ []) → AllByRecursion IsEnd commit
are_ends storage old new commit runs = first_ends commit [] (first_ends (commit ++ []) new.in_doubt runs.are_ends)

pub comes_all : {D : Type 0} (storage : Ghosts D) (old new : Core D) (tasks : List Inst) (ends : List Event) (commit : Commit) (ended : Ended)
    → EndsAsAnswered old new tasks ends commit ended → Runs storage old new (cut ended ends ∷ []) → Comes old new (cut ended ends)
comes_all storage old new tasks ends commit ended answered runs =
    let all : AllByRecursion IsEnd (cut ended ends) = are_ends storage old new (cut ended ends) runs in record {
      legal = answered.together.legal;
      graph = runs.graph;
      facts = λ fact. runs.facts fact ∙ ap (λ (list : List Event). with_facts (core.facts old) (stated.facts list) fact) (append-nil (cut ended ends));
      environment = λ fact. runs.environment fact ∙ ap (λ (E : Facts). E fact) (sym (given_by_ends (core.environment old) (cut ended ends) all));
      working = answered.takes.working;
      moved = answered.takes.moved ∙ ap (λ (list : Commit). old.vault.journal.end + commit_length list) answered.commit_is;
      allowance = omega (arith, answered.takes.allowance, ap length answered.commit_is, all_steps (cut ended ends) all);
    }

-- what was added, as far as the answer says
pub adds_together : {D : Type 0} (opening : Opening) (ends : List Event) (ended : Ended) (before after : List Made) (old new : Known) (c : Core D) → IsBehind opening (commits before) c → EndsTogether (core.graph c) (core.facts c) ends ended
    → Writes (cut ended ends) before after old new → AddsTogether opening ends old new ended
adds_together opening ends ended before after old new c behind together writes = record {
  adds = record {
    before = commits before;
    starts = writes.before.seen;
    ends = ap (λ (known : Known). known.seen) writes.pass ∙ ap commits writes.history ∙ commits_append before (record { pass = old.number; commit = cut ended ends } ∷ []);
    mine = ap (λ (known : Known). known.mine) writes.pass;
  };
  together = subst (λ (at : Graph × Facts). EndsTogether at.0 at.1 ends ended) (λ i. (behind.graph i, behind.facts i)) together;
}

-- of one end or more, one comes
comes_first : (done : ℕ) (stopped : Option FaultKind) (end : Event) (ends : List Event) → StopsAt stopped (drop done (end ∷ ends)) → 0 < length (cut (record { done = done; stopped = stopped }) (end ∷ ends))
comes_first zero None end ends stops = absurd (omega (arith, ap length stops))
comes_first zero (Some kind) end ends stops = omega arith
comes_first (suc done) stopped end ends stops = omega arith

pub some_come : (g h : Graph) (X Y : Facts) (tasks : List Inst) (outcomes : List Outcome) (ended : Ended) → 1 ≤ length tasks → HaveOutcomes g X tasks outcomes → EndsTogether h Y (ends_by tasks outcomes) ended
    → 0 < length (cut ended (ends_by tasks outcomes))
some_come g h X Y [] outcomes ended some have together = absurd (omega (arith, some))
some_come g h X Y (task ∷ tasks) [] ended some have together = absurd have
some_come g h X Y (task ∷ tasks) (outcome ∷ outcomes) ended some have together = comes_first ended.done ended.stopped (end_said task outcome) (ends_by tasks outcomes) together.stops

-- a commit that came had room
pub had_room : {D T : Type 0} (c : Core D) (commit : Commit) (value : T) → 0 < length commit → TellsFullAll {T = T} c commit (Ok value) → AreTooLong c commit → ⊥
had_room {D} {T} c commit value some full long = ⊎_elim (not_err (Store vault.Full)) (not_err (Store vault.NoMemory)) (full some long)
  where
    not_err : (error : CoreError) → ◌≡◌ {A = Result T CoreError} (Ok value) (Err error) → ⊥
    not_err error is = cc

-- it was made with the pass as the pass was before it saw the history
pub writes_all : (d shown later : Desk) (before seen after : Known) (batch said : Batch) (ended : Ended) → shown ≡ d → said ≡ batch → Shows d.book.history before seen
    → Writes (cut ended (ends_said said)) shown.book.history later.book.history seen after → Writes (cut ended (ends_said batch)) d.book.history later.book.history before after
writes_all d shown later before seen after batch said ended shown_is said_is shows writes =
    writes_from (cut ended (ends_said batch)) d.book.history later.book.history before seen after shows
    (subst (λ (at : Batch × Desk). Writes (cut ended (ends_said at.0)) at.1.book.history later.book.history seen after) (λ i. (said_is i, shown_is i)) writes)

-- ---- refusals

-- the causes of a refusal are there, in the state that the pass knows
pub refuse_there : {D T : Type 0} (opening : Opening) (history : List Made) (old known : Known) (c : Core D) (ends : List Event) (commit : Commit) (error : CoreError)
    → IsBehind opening (commits history) c → (core.is_halted c ≡ false → c.vault.journal.end ≡ end_behind opening (commits history)) → Shows history old known
    → TriesTogether c ends commit → RefusesAll c commit error → TellsFullAll {T = T} c commit (Err error) → RefusesTogether opening known ends error
refuse_there {D} {T} opening history old known c ends commit error behind same_end shows tried refuses full = here error refuses full
  where
    same_facts : core.facts c ≡ facts_behind opening known.seen
    same_facts = known_state opening history old known c behind shows

    same : core.is_halted c ≡ false → c.vault.journal.end ≡ end_behind opening known.seen
    same = known_end opening history old known c same_end shows

    -- ends that were tried come together
    tries : 0 < length commit → (ended : Ended) × EndsTogether opening.graph (facts_behind opening known.seen) ends ended × (commit ≡ cut ended ends)
    tries some =
        ⊎_elim
        (λ (none : commit ≡ []). absurd (omega (arith, some, ap length none)))
        (λ (is : (ended : Ended) × EndsTogether (core.graph c) (core.facts c) ends ended × (commit ≡ cut ended ends)).
        (is.0, subst (λ (at : Graph × Facts). EndsTogether at.0 at.1 ends is.0) (λ i. (behind.graph i, same_facts i)) is.1, is.2))
        tried

    not_full : ◌≡◌ {A = Result T CoreError} (Err (Store vault.Device)) (Err (Store vault.Full)) → ⊥
    not_full is = cc

    not_memory : ◌≡◌ {A = Result T CoreError} (Err (Store vault.Device)) (Err (Store vault.NoMemory)) → ⊥
    not_memory is = cc

    here : (error : CoreError) → RefusesAll c commit error → TellsFullAll {T = T} c commit (Err error) → RefusesTogether opening known ends error
    here (Refused refusal) is told = subst (λ (X : Facts). RefusesEnd X refusal) same_facts is.1
    here (Store vault.Halted) is told = tt
    here (Store vault.Full) is told =
        let found = tries is.1 in record {
          ended = found.0;
          together = found.1;
          too_long = omega (arith, is.2, same is.0, ap commit_length found.2);
        }
    here (Store vault.Device) is told =
        let found = tries is.1 in record {
          ended = found.0;
          together = found.1;
          fits = λ long. ⊎_elim not_full not_memory (told is.1 (omega (arith, long, same is.0, ap commit_length found.2)));
        }
    here (Store vault.NoMemory) is told = subst (λ (X : Facts). HasNoFault X) same_facts is.1
    here (Store (vault.Damaged side place)) is told = is
    here (Store vault.NotAStore) is told = is
    here (Store vault.Exists) is told = is
