-- How a core goes on: by nothing, or by several puts that are tried as one commit.
use Rattle.disk.specs.Storage.{Errs, Leaves}
use Rattle.disk.specs.declared.storage.Disk.{Ghosts}
use Rattle.std.proofs.Common.{◌≡◌, ◌∙◌, ◌≤◌, ◌++◌, ap, refl, sym, subst, inl, inr, Bool, true, false, List, [], ◌∷◌, length, Result, Err, arith, IsTrue}
use Rattle.std.proofs.lemmas.Bool.{false≢true}
use Rattle.std.proofs.lemmas.List.{append-nil}
use Rattle.terms.specs.declared.event.Event.{Event}
use Rattle.terms.specs.Commits.{Commit}
use Rattle.terms.specs.Facts as stated
use Rattle.terms.specs.Sets.{Facts, with_facts}
use Rattle.machine.specs.GroupLaws.{TakenInTurn}
use Rattle.machine.specs.State.{AreLegalFrom}
use Rattle.vault.specs.Commits.{AppendLeaves, GatesRest, HeldLeaves, RestLeaves, StandsForBeginning}
use Rattle.commit.specs.declared.error.CoreError.{CoreError}
use Rattle.commit.specs.Calls.{AreInDoubt, CrashLeaves, Halts, IsUnchanged, KeepsStore, commit_length}
use Rattle.commit.specs.Core.{Core, graph, facts, environment, is_halted}
use Rattle.commit.specs.Kept.{IsKept}
use Rattle.commit.specs.PutsAll.{TakesPuts}
use Rattle.commit.specs.Runs.{in_one, with_allowance}
use Rattle.commit.specs.Went.{GoesOn, Went}
use Rattle.commit.proofs.Lists.{with_nothing}
use Rattle.commit.proofs.Running.{rests, with_record}
use Rattle.commit.proofs.Same.{alike}
use Rattle.commit.proofs.Together.{acknowledged_all, begins, given_behind, one_behind}
use Rattle.commit.proofs.Went.{of_run}

pub in_one_of : (events : Commit) → 1 ≤ length events → in_one events ≡ events ∷ []
in_one_of [] some = absurd (omega (arith, some))
in_one_of (first ∷ events) some = refl

module _ {D : Type 0} (storage : Ghosts D)
    (leaves : IsTrue storage.is_honest → RestLeaves storage) (gates_rest : IsTrue storage.is_honest → GatesRest storage) where
  -- a core that is as it was
  pub nothing_came : (core : Core D) → (IsTrue storage.is_honest → IsKept storage.files core) → (is_halted core ≡ false → core.in_doubt ≡ []) → GoesOn storage core core []
  nothing_came core kept settled = record {
    went = λ working.
        of_run storage core core core.allowance []
        (rests storage leaves gates_rest (with_allowance core core.allowance) core working kept
        (record { graph = refl; facts = λ _. refl; environment = λ _. refl; allowance = refl; latest = refl; disk = refl; generation = refl; end = refl; halted = working; settled = settled working }));
    stays = λ halted. (record { graph = refl; facts = λ _. refl; environment = λ _. refl; vault = alike core.vault; in_doubt = refl; latest = refl }, refl);
    settled = settled;
    later = omega arith;
  }

  module _ {T : Type 0} (append : IsTrue storage.is_honest → AppendLeaves storage) (held : IsTrue storage.is_honest → HeldLeaves storage) (old new : Core D) (commit : Commit) (legal : AreLegalFrom (graph old) (facts old) commit)
      (kept : IsTrue storage.is_honest → IsKept storage.files old) (kept_after : IsTrue storage.is_honest → IsKept storage.files new) (settled : is_halted old ≡ false → old.in_doubt ≡ []) (moments : IsTrue storage.is_honest → is_halted old ≡ false → CrashLeaves storage old new commit) where
    -- puts that were committed
    pub commit_came : TakenInTurn → (result : Result T CoreError) → TakesPuts old new commit → new.in_doubt ≡ [] → Halts storage old new result → GoesOn storage old new (commit ∷ [])
    commit_came law result takes none halts =
        let adds = law old.machine commit new.machine takes.takes in
        let sets : facts new ≡ with_facts (facts old) (stated.facts commit) = λ i fact. adds.all fact i in
        let given : environment new ≡ with_facts (environment old) (stated.environment commit) = λ i fact. adds.given fact i in
        let one : (commit ++ []) ++ new.in_doubt ≡ commit = ap (λ (events : List Event). (commit ++ []) ++ events) none ∙ append-nil (commit ++ []) ∙ append-nil commit in
        let crash : IsTrue storage.is_honest → Leaves storage old.vault.disk new.vault.disk (StandsForBeginning (graph old) (environment old) (facts old) [] (commit ∷ [])) =
        λ on. begins storage append old new commit on (moments on takes.working.0)
        in
        record {
          went = λ working. record {
            legal = subst (λ (events : List Event). AreLegalFrom (graph old) (facts old) events) (sym one) legal;
            graph = adds.graph;
            facts = λ fact. adds.all fact ∙ ap (λ (X : Facts). X fact) (sym (one_behind storage (facts old) commit));
            environment = λ fact. adds.given fact ∙ ap (λ (E : Facts). E fact) (sym (given_behind storage (environment old) commit));
            generation = λ _. takes.generation;
            end = λ _. with_record new.vault.journal.end old.vault.journal.end (commit_length commit) takes.moved;
            crashes = λ on.
                subst (λ (events : List Event). Leaves storage old.vault.disk new.vault.disk (StandsForBeginning (graph old) (environment old) (facts old) [] (commit ∷ in_one events))) (sym none) (crash on);
            acknowledged = acknowledged_all storage held old new commit takes.working.1 adds.graph sets given kept_after crash;
            gates = λ on has. (moments on working).gates has;
            halts = (λ halted. elim (halts.halts.0 halted) [ inl before ↦ absurd (false≢true (sym working ∙ before)) | inr erred ↦ erred ], λ erred. halts.halts.1 (inr erred));
          };
          stays = λ halted. absurd (false≢true (sym takes.working.0 ∙ halted));
          settled = λ _. none;
          later = halts.disk.later;
        }

    -- puts that were refused
    pub commit_refused : (error : CoreError) → 1 ≤ length commit → IsUnchanged old new → AreInDoubt {T = T} old new commit (Err error) → Halts {T = T} storage old new (Err error) → GoesOn storage old new []
    commit_refused error some same doubt halts = record { went = λ working. at working (is_halted new) refl; stays = λ halted. (still halted, refl); settled = λ goes. by_old goes (is_halted old) refl; later = halts.disk.later }
      where
        still : is_halted old ≡ true → KeepsStore old new
        still halted =
            let stops : is_halted new ≡ true = halts.halts.1 (inl halted) in
            let kept_so = halts.same (stops ∙ sym halted) in
            record { graph = same.stays.graph; facts = same.stays.facts; environment = same.stays.environment; vault = kept_so.0; in_doubt = kept_so.1; latest = same.stays.latest }

        by_old : is_halted new ≡ false → (b : Bool) → is_halted old ≡ b → new.in_doubt ≡ []
        by_old goes false working = (halts.same (goes ∙ sym working)).1 ∙ settled working
        by_old goes true halted = absurd (false≢true (sym goes ∙ halts.halts.1 (inl halted)))

        at : is_halted old ≡ false → (b : Bool) → is_halted new ≡ b → Went storage old new []
        at working false goes =
            let kept_so = halts.same (goes ∙ sym working) in
            of_run storage old new new.allowance []
            (rests storage leaves gates_rest (with_allowance old new.allowance) new working (λ on. record { holds = (kept on).holds; left = (kept on).left })
            (record { graph = same.stays.graph; facts = same.stays.facts; environment = same.stays.environment; allowance = refl; latest = same.stays.latest; disk = kept_so.0.disk; generation = kept_so.0.generation; end = kept_so.0.end; halted = goes; settled = kept_so.1 ∙ settled working }))
        at working true stops =
            let in_doubt : new.in_doubt ≡ commit = doubt working stops in
            let pending : in_one new.in_doubt ≡ commit ∷ [] = ap in_one in_doubt ∙ in_one_of commit some in
            let erred : Errs storage old.vault.disk new.vault.disk = elim (halts.halts.0 stops) [ inl before ↦ absurd (false≢true (sym working ∙ before)) | inr it ↦ it ] in
            let crash : IsTrue storage.is_honest → Leaves storage old.vault.disk new.vault.disk (StandsForBeginning (graph old) (environment old) (facts old) [] (in_one new.in_doubt)) = λ on.
            subst (λ (commits : List Commit). Leaves storage old.vault.disk new.vault.disk (StandsForBeginning (graph old) (environment old) (facts old) [] commits)) (sym pending)
            (begins storage append old new commit on (moments on working))
            in
            record {
              legal = subst (λ (events : List Event). AreLegalFrom (graph old) (facts old) events) (sym in_doubt) legal;
              graph = same.stays.graph;
              facts = λ fact. same.stays.facts fact ∙ ap (λ (S : Facts). S fact) (sym (with_nothing (facts old)));
              environment = λ fact. same.stays.environment fact ∙ ap (λ (S : Facts). S fact) (sym (with_nothing (environment old)));
              generation = λ goes. absurd (false≢true (sym goes ∙ stops));
              end = λ goes. absurd (false≢true (sym goes ∙ stops));
              crashes = crash;
              acknowledged = λ on t contents after before was. (crash on).each t contents after before was;
              gates = λ on has. (moments on working).gates has;
              halts = (λ _. erred, λ _. stops);
            }
