-- What was committed since the opening of a hub is one run.
use Rattle.disk.specs.declared.storage.Disk.{Ghosts}
use Rattle.std.proofs.Common.{◌≡◌, ◌≢◌, ◌⊎◌, ◌↔◌, ◌∙◌, ◌<◌, ◌≤◌, ◌+◌, ℕ, Bool, true, false, List, [], ◌∷◌, ◌++◌, length, refl, sym, ap, subst, arith, inl, Err, IsTrue}
use Rattle.std.proofs.lemmas.List.{append-nil}
use Rattle.std.proofs.lemmas.Bool.{false≢true}
use Rattle.std.specs.List.{AllByRecursion}
use Rattle.disk.specs.Time.{Contents, LeavesSince}
use Rattle.terms.specs.declared.event.Event.{Event}
use Rattle.terms.specs.Commits.{Commit, events_of}
use Rattle.terms.specs.Sets.{AmongBoth}
use Rattle.machine.specs.State.{AreLegalFrom}
use Rattle.vault.specs.Commits.{GatesStay, GatesRest, RestLeaves, StandsForBeginning}
use Rattle.vault.specs.Store.{HasGates}
use Rattle.commit.specs.declared.error.CoreError.{CoreError}
use Rattle.commit.specs.Core.{Core, is_halted}
use Rattle.commit.specs.Calls.{Halts, Stays}
use Rattle.commit.specs.Kept.{IsKept as KeepsFiles}
use Rattle.commit.specs.Runs.{AcknowledgesFrom, Begun, IsEnd, Runs, RunsSince, in_one}
use Rattle.commit.proofs.Joined.{since_joined}
use Rattle.commit.proofs.Running.{rests}
use Rattle.passes.specs.Opening.{Opening}
use Rattle.hub.specs.Opening.{opening_of, begun_with}
use Rattle.hub.specs.Kept.{HasRun, Rests}
use Rattle.hub.proofs.Keeping.{RanStays}

module _ {D : Type 0} (storage : Ghosts D) (opening : Opening) (left : ℕ → Contents → Type 0) (envs : ℕ) where
  -- a call of a halted core changes nothing of the disk
  rests_same : (old new : Core D) → new.vault.disk ≡ old.vault.disk → is_halted new ≡ is_halted old → Rests storage opening left old → Rests storage opening left new
  rests_same old new disk halted rests = record {
    halted = halted ∙ rests.halted;
    since = ap storage.moment disk ∙ rests.since;
    leaves = λ t contents may. rests.leaves t contents (subst (λ (d : D). storage.left_at d t contents) disk may);
  }

  rests_refused : {T : Type 0} (old new : Core D) (error : CoreError) → Halts {T = T} storage old new (Err error) → Rests storage opening left old → Rests storage opening left new
  rests_refused old new error halts rests =
      let is : is_halted new ≡ is_halted old = halts.halts.1 (inl rests.halted) ∙ sym rests.halted in
      rests_same old new (halts.same is).0.disk is rests

  -- nothing happens on the disk
  pub ran_stays : RanStays (HasRun storage opening left envs)
  ran_stays made old new stays same doubt ran = record {
    run = λ none working.
        let begun : Begun = begun_with opening in
        let it = ran.run none working in
        record {
          are_ends = subst (λ (list : List Event). AllByRecursion IsEnd (events_of made ++ list)) (sym doubt) it.are_ends;
          legal = subst (λ (list : List Event). AreLegalFrom begun.graph begun.facts (events_of made ++ list)) (sym doubt) it.legal;
          graph = stays.graph ∙ it.graph;
          facts = λ fact. stays.facts fact ∙ it.facts fact;
          environment = λ fact. stays.environment fact ∙ it.environment fact;
          spent = ap (λ n. n + length (events_of made)) stays.allowance ∙ it.spent;
          latest = stays.latest ∙ it.latest;
          generation = λ goes. same.generation ∙ it.generation (sym same.halted ∙ goes);
          end = λ goes. same.end ∙ it.end (sym same.halted ∙ goes);
          crashes = λ on.
              subst (λ (at : D × List Event). LeavesSince storage.moment storage.left_at begun.moment left at.0 (StandsForBeginning begun.graph begun.environment begun.facts [] (made ++ in_one at.1)))
              (λ i. (sym same.disk i, sym doubt i)) (it.crashes on);
          acknowledged = λ on.
              subst (λ (at : D × List Event). AcknowledgesFrom begun.graph begun.environment begun.facts (storage.left_at at.0) (storage.moment at.0) begun.moment [] made (in_one at.1))
              (λ i. (sym same.disk i, sym doubt i)) (it.acknowledged on);
          gates = λ on has. subst (λ (d : D). LeavesSince storage.moment storage.left_at begun.moment left d HasGates) (sym same.disk) (it.gates on has);
          halts = subst (λ (at : Bool × D). (at.0 ≡ true) ↔ ((begun.failures < storage.failures at.1) ⊎ (storage.refusals at.1 ≢ begun.refusals))) (λ i. (sym same.halted i, sym same.disk i)) it.halts;
          later = subst (λ (d : D). begun.failures ≤ storage.failures d) (sym same.disk) it.later;
          some_in_doubt = λ is.
              subst (λ (list : List Event). (0 < length list) × (length (events_of made) + length list ≤ begun.allowance)) (sym doubt) (it.some_in_doubt (sym same.halted ∙ is));
        };
    rests = λ opened. let before = ran.rests opened in (before.0, rests_same old new same.disk same.halted before.1);
  }

  -- a core that commits was not halted when the hub was opened
  no_rest : (made : List Commit) (old : Core D) → is_halted old ≡ false → HasRun storage opening left envs made old → opening.halted ≡ true → ⊥
  no_rest made old goes ran opened = false≢true (sym goes ∙ (ran.rests opened).1.halted)

  -- a commit of the environment comes
  pub ran_put : (number : ℕ) (made later : List Commit) (old new : Core D) → number < envs → is_halted old ≡ false → HasRun storage opening left envs made old
      → HasRun storage opening left envs later new
  ran_put number made later old new below goes ran = record {
    run = λ none _. absurd (omega (arith, below, none));
    rests = λ opened. absurd (no_rest made old goes ran opened);
  }

  -- one is refused
  pub ran_refused_put : {T : Type 0} (number : ℕ) (made : List Commit) (old new : Core D) (error : CoreError) → number < envs → Halts {T = T} storage old new (Err error)
      → HasRun storage opening left envs made old → HasRun storage opening left envs made new
  ran_refused_put {T} number made old new error below halts ran = record {
    run = λ none _. absurd (omega (arith, below, none));
    rests = λ opened. let before = ran.rests opened in (before.0, rests_refused {T = T} old new error halts before.1);
  }

  module _ (both : AmongBoth) (gates_stay : IsTrue storage.is_honest → GatesStay storage) where
    -- a commit of ends comes
    pub ran_more : (made : List Commit) (old new : Core D) (commit : Commit) → is_halted old ≡ false → old.in_doubt ≡ [] → HasRun storage opening left envs made old
        → Runs storage old new (commit ∷ []) → HasRun storage opening left envs (made ++ commit ∷ []) new
    ran_more made old new commit goes settled ran runs = record {
      run = λ none working. since_joined storage both gates_stay (begun_with opening) left old new made (commit ∷ []) goes settled (ran.run none working) runs;
      rests = λ opened. absurd (no_rest made old goes ran opened);
    }

    -- one is refused
    pub ran_refused : {T : Type 0} (made : List Commit) (old new : Core D) (error : CoreError) → (is_halted old ≡ false → old.in_doubt ≡ []) → HasRun storage opening left envs made old
        → Stays old new → Halts {T = T} storage old new (Err error) → (is_halted old ≡ false → Runs storage old new []) → HasRun storage opening left envs made new
    ran_refused {T} made old new error settled ran stays halts runs = by_case (is_halted old) refl
      where
        by_case : (was : Bool) → is_halted old ≡ was → HasRun storage opening left envs made new
        by_case false goes = record {
          run = λ none working.
              subst (λ (list : List Commit). RunsSince storage (begun_with opening) left new list) (append-nil made)
              (since_joined storage both gates_stay (begun_with opening) left old new made [] goes (settled goes) (ran.run none working) (runs goes));
          rests = λ opened. absurd (no_rest made old goes ran opened);
        }
        by_case true halted =
            let is : is_halted new ≡ is_halted old = halts.halts.1 (inl halted) ∙ sym halted in
            let same = halts.same is in
            ran_stays made old new stays same.0 same.1 ran

-- what a crash might have left, by its other name
as_named : {D : Type 0} (storage : Ghosts D) (left : ℕ → Contents → Type 0) (d : D) (P : Contents → Type 0) → ((t : ℕ) (contents : Contents) → left t contents ↔ storage.left_at d t contents)
    → LeavesSince storage.moment storage.left_at (storage.moment d) (storage.left_at d) d P → LeavesSince storage.moment storage.left_at (storage.moment d) left d P
as_named storage left d P alike leaves = record {
  later = leaves.later;
  each = leaves.each;
  stays = λ t contents le. (λ was. (alike t contents).1 ((leaves.stays t contents le).0 was), λ was. (leaves.stays t contents le).1 ((alike t contents).0 was));
}

-- nothing was committed yet
pub ran_nothing : {D : Type 0} (storage : Ghosts D) (opening : Opening) (left : ℕ → Contents → Type 0) (envs : ℕ) (c : Core D)
    → (IsTrue storage.is_honest → RestLeaves storage) → (IsTrue storage.is_honest → GatesRest storage) → (IsTrue storage.is_honest → KeepsFiles storage.files c) → (is_halted c ≡ false → c.in_doubt ≡ [])
    → opening ≡ opening_of storage c → ((t : ℕ) (contents : Contents) → left t contents ↔ storage.left_at c.vault.disk t contents) → HasRun storage opening left envs [] c
ran_nothing {D = D} storage opening left envs c rest_leaves gates_rest kept settled opened alike = record {
  run = λ none working.
      let goes : is_halted c ≡ false = ap (λ (o : Opening). o.halted) (sym opened) ∙ working in
      let here : Runs storage c c [] =
      rests storage rest_leaves gates_rest c c goes kept
      (record { graph = refl; facts = λ _. refl; environment = λ _. refl; allowance = refl; latest = refl; generation = refl; end = refl; disk = refl; halted = goes; settled = settled goes }) in
      subst (λ (o : Opening). RunsSince storage (begun_with o) left c []) (sym opened) (record {
        are_ends = here.are_ends;
        legal = here.legal;
        graph = here.graph;
        facts = here.facts;
        environment = here.environment;
        spent = here.spent;
        latest = here.latest;
        generation = here.generation;
        end = here.end;
        crashes = λ on. as_named storage left c.vault.disk _ alike (here.crashes on);
        acknowledged = here.acknowledged;
        gates = λ on has. as_named storage left c.vault.disk _ alike (here.gates on has);
        halts = here.halts;
        later = here.later;
        some_in_doubt = here.some_in_doubt;
      });
  rests = λ halted. (
    refl,
    record {
      halted = ap (λ (o : Opening). o.halted) (sym opened) ∙ halted;
      since = ap (λ (o : Opening). o.moment) (sym opened);
      leaves = λ t contents may. (alike t contents).1 may;
    },
  );
}
