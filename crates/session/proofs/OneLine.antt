-- What a line comes to: a put or a get by its call, and a run by its verdict.
use Rattle.disk.specs.declared.storage.Disk.{Ghosts}
use Rattle.std.proofs.Common.{◌≡◌, ◌∙◌, ap, refl, sym, subst, ℕ, Bool, true, false, List, [], length, Some, None, Result, IfSome, arith, IsTrue}
use Rattle.std.proofs.lemmas.Bool.{false≢true}
use Rattle.terms.specs.declared.event.Event.{Event}
use Rattle.terms.specs.Commits.{Commit, events_of}
use Rattle.terms.specs.Facts as stated
use Rattle.terms.specs.Sets.{Facts, with_facts}
use Rattle.graph.specs.Graph.{Graph}
use Rattle.vault.specs.Commits.{GatesRest, RestLeaves}
use Rattle.commit.specs.declared.verdict.RunError.{RunError}
use Rattle.commit.specs.declared.verdict.Verdict.{Verdict}
use Rattle.commit.specs.Core.{Core, facts, graph, is_halted}
use Rattle.commit.specs.Kept.{IsKept}
use Rattle.commit.specs.Runs.{IsFull, MetFull, TellsVerdict}
use Rattle.commit.proofs.Lists.{first_ends, with_nothing}
use Rattle.commit.proofs.Told.{told_for}
use Rattle.script.specs.declared.command.Command.{Command}
use Rattle.script.specs.declared.command.Command.TheVariants.{Run}
use Rattle.session.specs.declared.reply.Reply.{Reply}
use Rattle.session.specs.Answers.{Drive, RepliesTo, TellsHalt, TellsRun, drive_of, run_reply}
use Rattle.session.specs.Lines.{AnswersAtOnce, AnswersVerdict, ComesTo, HasRunTo}
use Rattle.session.specs.Session.{stop_of}
use Rattle.commit.specs.Went.{GoesOn}
use Rattle.session.specs.Went.{GoesOnBy, HasCause, HasCauseOfRun}
use Rattle.commit.proofs.Went.{of_run}
use Rattle.commit.proofs.GoingOn.{nothing_came}
use Rattle.session.proofs.Ran.{cause_of_run, front_legal}

module _ {D : Type 0} (storage : Ghosts D) where
  -- ---- puts and gets

  pub at_once : (old new : Core D) (command : Command) (reply : Reply) (came : List Event) → (goes : GoesOnBy storage old new came) → ((drive : Drive) → RepliesTo (graph old) drive (facts old) command came reply)
      → ((halted : Bool) → is_halted old ≡ halted → TellsHalt halted command reply) → HasCause storage.failures old new command goes.commits reply → (stop_of reply ≡ None → is_halted new ≡ is_halted old) → AnswersAtOnce storage old new command (Some reply)
  at_once old new command reply came goes replies halts cause stays =
      λ drive was. record { came = came; goes_on = goes; replies = (replies drive, halts drive.was_halted (sym was)); cause = cause; stays = stays }

  -- ---- runs

  module _ (rest_leaves : IsTrue storage.is_honest → RestLeaves storage) (gates_rest : IsTrue storage.is_honest → GatesRest storage) (new : Core D) (kept : IsTrue storage.is_honest → IsKept storage.files new) (settled : is_halted new ≡ false → new.in_doubt ≡ [])
      (verdict : Result Verdict RunError) (reply : Reply) (exact : IfSome (run_reply verdict) (λ expected. reply ≡ expected))
      (tells : (g : Graph) (X : Facts) (from : ℕ) (commits : List Commit) (may_be_asked may_spawn was_halted : Bool) (limit count : ℕ) → TellsVerdict (MetFull g X from commits) may_be_asked may_spawn new limit count verdict
      → TellsRun (graph new) (drive_of limit may_be_asked may_spawn was_halted) (facts new) count reply)
      (cause : (g : Graph) (X : Facts) (from : ℕ) (commits : List Commit) (may_be_asked may_spawn : Bool) (limit count : ℕ) → TellsVerdict (MetFull g X from commits) may_be_asked may_spawn new limit count verdict → HasCauseOfRun g X from new commits reply)
      (stays : (g : Graph) (X : Facts) (from : ℕ) (commits : List Commit) (may_be_asked may_spawn : Bool) (limit count : ℕ) → TellsVerdict (MetFull g X from commits) may_be_asked may_spawn new limit count verdict → stop_of reply ≡ None → is_halted new ≡ false) where
    -- the core was halted, and is as it was
    halted_run : (old : Core D) (most : ℕ) (may_be_asked may_spawn : Bool) → is_halted old ≡ true → HasRunTo storage most may_be_asked may_spawn old new verdict → ComesTo storage (drive_of most may_be_asked may_spawn (is_halted old)) old new Run reply
    halted_run old most may_be_asked may_spawn halted ran =
        let same = ran.halted halted in
        let is = subst (λ (r : Result Verdict RunError). TellsVerdict (MetFull (graph old) (facts old) old.vault.journal.end []) may_be_asked may_spawn new most 0 r) (sym same.1) (subst (λ (core : Core D). is_halted core ≡ true) (sym same.0) halted) in
        let told = subst (λ (core : Core D). TellsRun (graph core) (drive_of most may_be_asked may_spawn (is_halted old)) (facts core) 0 reply) same.0 (tells (graph old) (facts old) old.vault.journal.end [] may_be_asked may_spawn (is_halted old) most 0 is) in
        record {
          came = [];
          goes_on = record { commits = []; order = refl; goes_on = subst (λ (core : Core D). GoesOn storage core new []) same.0 (nothing_came storage rest_leaves gates_rest new kept settled) };
          replies = (
            record {
              are_ends = tt;
              legal = tt;
              within = omega arith;
              told = subst (λ (X : Facts). TellsRun (graph old) (drive_of most may_be_asked may_spawn (is_halted old)) X 0 reply) (sym (with_nothing (facts old))) told;
            },
            λ _. subst (λ (r : Result Verdict RunError). IfSome (run_reply r) (λ expected. reply ≡ expected)) same.1 exact,
          );
          cause = cause_of_run storage.failures old new [] reply (cause (graph old) (facts old) old.vault.journal.end [] may_be_asked may_spawn most 0 is);
          stays = λ _. ap is_halted same.0;
        }

    working_run : (old : Core D) (most : ℕ) (may_be_asked may_spawn : Bool) → is_halted old ≡ false → HasRunTo storage most may_be_asked may_spawn old new verdict → ComesTo storage (drive_of most may_be_asked may_spawn (is_halted old)) old new Run reply
    working_run old most may_be_asked may_spawn working ran =
        let it = ran.runs working in
        let is = told_for (MetFull (graph old) (facts old) old.vault.journal.end it.commits × (may_spawn ≡ false → IsFull new)) (MetFull (graph old) (facts old) old.vault.journal.end it.commits)
        may_be_asked may_spawn new most (length (events_of it.commits)) verdict (λ _ both. both.0) it.told in
        let came = events_of it.commits in
        let all : facts new ≡ with_facts (facts old) (stated.facts came) = λ i fact. it.runs.facts fact i in
        record {
          came = came;
          goes_on = record {
            commits = it.commits;
            order = refl;
            goes_on = record { went = λ _. of_run storage old new most it.commits it.runs; stays = λ halted. absurd (false≢true (sym working ∙ halted)); settled = settled; later = it.runs.later };
          };
          replies = (
            record {
              are_ends = first_ends came new.in_doubt it.runs.are_ends;
              legal = front_legal (graph old) (facts old) came new.in_doubt it.runs.legal;
              within = omega (arith, it.runs.spent);
              told = subst (λ (h : Graph). TellsRun h (drive_of most may_be_asked may_spawn (is_halted old)) (with_facts (facts old) (stated.facts came)) (length came) reply) it.runs.graph
                  (subst (λ (X : Facts). TellsRun (graph new) (drive_of most may_be_asked may_spawn (is_halted old)) X (length came) reply) all
                  (tells (graph old) (facts old) old.vault.journal.end it.commits may_be_asked may_spawn (is_halted old) most (length came) is));
            },
            λ halted. absurd (false≢true (sym working ∙ halted)),
          );
          cause = cause_of_run storage.failures old new it.commits reply (cause (graph old) (facts old) old.vault.journal.end it.commits may_be_asked may_spawn most (length came) is);
          stays = λ none. stays (graph old) (facts old) old.vault.journal.end it.commits may_be_asked may_spawn most (length came) is none ∙ sym working;
        }

    pub by_verdict : AnswersVerdict storage new verdict reply
    by_verdict old most may_be_asked may_spawn ran = by_halted (is_halted old) refl
      where
        by_halted : (b : Bool) → is_halted old ≡ b → ComesTo storage (drive_of most may_be_asked may_spawn (is_halted old)) old new Run reply
        by_halted true halted = halted_run old most may_be_asked may_spawn halted ran
        by_halted false working = working_run old most may_be_asked may_spawn working ran
