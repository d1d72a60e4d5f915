-- What each call of a run makes of a core: the end of an instance, and all that changes nothing on the disk.
use Rattle.disk.specs.Storage.{Errs, Leaves}
use Rattle.disk.specs.declared.storage.Disk.{Ghosts}
use Rattle.std.proofs.Common.{◌≡◌, ◌∙◌, ◌⊎◌, ◌<◌, ◌≤◌, ◌+◌, ◌++◌, ap, refl, sym, subst, inl, inr, ℕ, Bool, true, false, List, [], ◌∷◌, length, Result, Ok, Err, IfOk, OnErr, arith, IsTrue}
use Rattle.std.proofs.lemmas.Bool.{false≢true}
use Rattle.std.proofs.lemmas.List.{append-nil}
use Rattle.std.specs.List.{AllByRecursion}
use Rattle.terms.specs.declared.name.Addr.{Addr}
use Rattle.terms.specs.declared.name.Inst.{Inst}
use Rattle.terms.specs.declared.fault.FaultKind.{FaultKind}
use Rattle.terms.specs.declared.put.Put.{Put}
use Rattle.terms.specs.declared.event.Event.{Event}
use Rattle.terms.specs.declared.event.Event.TheVariants as event
use Rattle.terms.specs.Facts.{Fact, event_facts, environment_facts}
use Rattle.terms.specs.Sets.{Facts, with_facts}
use Rattle.journal.specs.declared.journal.TheConstants.{LIMIT}
use Rattle.graph.specs.Fits.{HasNoFault}
use Rattle.graph.specs.Graph.{Graph}
use Rattle.instances.specs.declared.state.State.{State}
use Rattle.instances.specs.declared.state.State.TheVariants.{Ready, Waiting}
use Rattle.machine.specs.declared.refusal.Refusal.{Refusal}
use Rattle.machine.specs.declared.refusal.Refusal.TheVariants.{NoSuchCollection, NotFromEnvironment, WrongArity, AlreadyPut, Stopped, Repeat}
use Rattle.machine.specs.Legal.{IsLegal}
use Rattle.machine.specs.Machine.{RefusesEnd}
use Rattle.machine.specs.State.{AreLegalFrom}
use Rattle.vault.specs.declared.error.VaultError.TheVariants.{Device, NoMemory, Damaged, Full, NotAStore, Halted, Exists}
use Rattle.vault.specs.Commits.{AppendLeaves, HeldLeaves, RestLeaves, GatesRest, StandsForBeginning}
use Rattle.vault.specs.Stands.{Stands}
use Rattle.vault.specs.Store.{Holds, HasGates, IsSame, StandsBeforeOrAfter}
use Rattle.commit.specs.declared.error.CoreError.{CoreError}
use Rattle.commit.specs.declared.error.CoreError.TheVariants.{Refused, Store}
use Rattle.commit.specs.declared.outcome.Outcome.{Outcome}
use Rattle.steplang.specs.declared.outcome.Bad.{Bad}
use Rattle.steplang.specs.declared.outcome.Given.{Given}
use Rattle.commit.specs.declared.outcome.Committed.{Committed}
use Rattle.commit.specs.declared.outcome.Committed.TheVariants as committed
use Rattle.commit.specs.declared.outcome.Outcome.TheVariants.{Gave, Fault}
use Rattle.commit.specs.Calls.{Commits, CrashLeaves, GivesBack, Halts, Refuses, Takes, record_length, step_count}
use Rattle.commit.specs.Core.{Core, graph, facts, environment, is_halted}
use Rattle.commit.specs.Kept.{IsKept}
use Rattle.commit.specs.Outcome.{EndsGiven, Finishes, IsEndOf, IsEndOfGiven, Tells}
use Rattle.commit.specs.Runs.{AcknowledgesFrom, EndRuns, EndsEarly, IsEnd, IsFull, Runs, RunsOn, in_one}
use Rattle.commit.specs.Steps.{LooksAgain, Moves}
use Rattle.commit.proofs.Answered.{if_ok}
use Rattle.commit.proofs.Lists.{with_nothing, puts_nothing}

-- an outcome ends its instance
pub is_end : (outcome : Outcome) (instance : Inst) (end : Event) → IsEndOf outcome instance end → IsEnd end
is_end (Gave given) instance end is = elim is [ inl done ↦ subst IsEnd (sym done) tt | inr stopped ↦ subst IsEnd (sym stopped) tt ]
is_end (Fault bad) instance end is = subst IsEnd (sym is) tt

-- an end uses one of the allowance
costs_one : (end : Event) → IsEnd end → step_count end ≡ 1
costs_one (event.EnvItem address value) is = absurd is
costs_one (event.EnvTag name) is = absurd is
costs_one (event.Done instance puts) is = refl
costs_one (event.Stopped instance kind) is = refl

module _
    {D : Type 0} (storage : Ghosts D) (old new : Core D)
    (instance : Inst) (outcome : Outcome) (result : Result Committed CoreError)
  where
    -- an end by the puts that a body gave is one of its outcome, and so is an end by its fault
    pub of_given : (given : Given) (puts : List Put) → outcome ≡ Gave given → puts ≡ given.puts
        → EndsGiven storage old new instance puts result → Finishes storage old new instance outcome result
    of_given given puts is puts_are it = record {
      end = it.end;
      is_end = subst (λ (o : Outcome). IsEndOf o instance it.end) (sym is) (subst (λ (list : List Put). IsEndOfGiven instance list it.end) puts_are it.is_end);
      commits = it.commits;
      told = it.told;
    }

    pub of_fault : (bad : Bad) (kind : FaultKind) → outcome ≡ Fault bad → kind ≡ bad.kind → Commits storage old new (RefusesEnd (facts old)) (event.Stopped instance kind) result
        → IfOk result (λ told. told ≡ committed.Stopped kind) → Finishes storage old new instance outcome result
    of_fault bad kind is kind_is commits told = record {
      end = event.Stopped instance kind;
      is_end = subst (λ (o : Outcome). IsEndOf o instance (event.Stopped instance kind)) (sym is) (ap (λ (k : FaultKind). event.Stopped instance k) kind_is);
      commits = commits;
      told = if_ok result (λ (t : Committed). t ≡ committed.Stopped kind) (λ (t : Committed). Tells t (event.Stopped instance kind))
          (λ t is. subst (λ (c : Committed). Tells c (event.Stopped instance kind)) (sym is) (instance, refl)) told;
    }

-- where a journal ends after no record, and after one
with_none : (new old : ℕ) → new ≡ old → new ≡ old + 0
with_none new old is = omega (arith, is)

pub with_record : (new old one : ℕ) → new ≡ old + one → new ≡ old + (one + 0)
with_record new old one is = omega (arith, is)

-- nothing has changed that is on the disk, or is on its way there
pub record SameStore {D : Type 0} (old new : Core D) : Type 0 where
  pub graph : graph new ≡ graph old
  pub facts : (fact : Fact) → facts new fact ≡ facts old fact
  pub environment : (fact : Fact) → environment new fact ≡ environment old fact
  pub allowance : new.allowance ≡ old.allowance
  pub latest : new.latest ≡ old.latest
  pub disk : new.vault.disk ≡ old.vault.disk
  pub generation : new.vault.generation ≡ old.vault.generation
  pub end : new.vault.journal.end ≡ old.vault.journal.end
  pub halted : is_halted new ≡ false
  pub settled : new.in_doubt ≡ []

pub moved : {D : Type 0} (old new : Core D) (instance : Inst) (to : State) → Moves old new instance to → is_halted old ≡ false → old.in_doubt ≡ [] → SameStore old new
moved old new instance to moves working settled = record {
  graph = moves.machine.graph;
  facts = moves.machine.facts;
  environment = moves.machine.environment;
  allowance = moves.allowance;
  latest = moves.latest;
  disk = ap (λ v. v.disk) moves.vault;
  generation = ap (λ v. v.generation) moves.vault;
  end = ap (λ v. v.journal.end) moves.vault;
  halted = ap (λ v. v.halted) moves.vault ∙ working;
  settled = moves.in_doubt ∙ settled;
}

pub looked : {D : Type 0} (old new : Core D) (instance : Inst) (address : Addr) → LooksAgain old new instance address → is_halted old ≡ false → old.in_doubt ≡ [] → SameStore old new
looked old new instance address looks working settled = elim looks [
  | inl waits ↦ moved old new instance (Waiting address) waits.1 working settled
  | inr ready ↦ moved old new instance Ready ready.1 working settled
]

pub handed_back : {D : Type 0} (old new : Core D) (instance : Inst) → GivesBack old new instance → new.vault ≡ old.vault → new.in_doubt ≡ old.in_doubt → is_halted old ≡ false → old.in_doubt ≡ [] → SameStore old new
handed_back old new instance back vault doubt working settled = record {
  graph = back.stays.graph;
  facts = back.stays.facts;
  environment = back.stays.environment;
  allowance = back.stays.allowance;
  latest = back.stays.latest;
  disk = ap (λ v. v.disk) vault;
  generation = ap (λ v. v.generation) vault;
  end = ap (λ v. v.journal.end) vault;
  halted = ap (λ v. v.halted) vault ∙ working;
  settled = doubt ∙ settled;
}

module _ {D : Type 0} (storage : Ghosts D) where
  -- ---- nothing changes on the disk

  pub rests : (IsTrue storage.is_honest → RestLeaves storage) → (IsTrue storage.is_honest → GatesRest storage) → (old new : Core D) → is_halted old ≡ false → (IsTrue storage.is_honest → IsKept storage.files old) → SameStore old new
      → Runs storage old new []
  rests leaves gates_rest old new working kept same =
      let none : [] ++ new.in_doubt ≡ [] = same.settled in
      let crash : IsTrue storage.is_honest → Leaves storage old.vault.disk new.vault.disk (StandsForBeginning (graph old) (environment old) (facts old) [] ([] ++ in_one new.in_doubt)) = λ on.
      let holds = (kept on).holds working in
      let of_store = subst (λ (E : Facts). Holds storage.files old.vault (graph old) E (with_facts (facts old) [])) (sym (with_nothing (environment old))) (subst (λ (X : Facts). Holds storage.files old.vault (graph old) (environment old) X) (sym (with_nothing (facts old))) holds) in
      let here = leaves on old.vault (graph old) (environment old) (facts old) [] of_store in
      subst (λ (d : D). Leaves storage old.vault.disk d (StandsForBeginning (graph old) (environment old) (facts old) [] ([] ++ in_one new.in_doubt))) (sym same.disk)
      (subst (λ (events : List Event). Leaves storage old.vault.disk old.vault.disk (StandsForBeginning (graph old) (environment old) (facts old) [] (in_one events))) (sym none) here)
      in
      record {
        are_ends = subst (λ (events : List Event). AllByRecursion IsEnd events) (sym none) tt;
        legal = subst (λ (events : List Event). AreLegalFrom (graph old) (facts old) events) (sym none) tt;
        graph = same.graph;
        facts = λ fact. same.facts fact ∙ ap (λ (X : Facts). X fact) (sym (with_nothing (facts old)));
        environment = same.environment;
        spent = omega (arith, same.allowance);
        latest = same.latest;
        generation = λ _. same.generation;
        end = λ _. with_none new.vault.journal.end old.vault.journal.end same.end;
        crashes = crash;
        acknowledged = λ on t contents after before was. (crash on).each t contents after before was;
        gates = λ on has. subst (λ (d : D). Leaves storage old.vault.disk d HasGates) (sym same.disk) (gates_rest on old.vault (graph old) (environment old) (facts old) ((kept on).holds working) has);
        halts = (λ is. absurd (false≢true (sym same.halted ∙ is)), λ erred. absurd (calm (subst (λ (d : D). Errs storage old.vault.disk d) same.disk erred)));
        later = omega (arith, ap storage.failures same.disk);
        some_in_doubt = λ is. absurd (false≢true (sym same.halted ∙ is));
      }
    where
      calm : Errs storage old.vault.disk old.vault.disk → ⊥
      calm (inl grew) = omega (arith, grew)
      calm (inr changed) = changed refl

  -- no call of the disk was made
  pub as_it_was : (IsTrue storage.is_honest → RestLeaves storage) → (IsTrue storage.is_honest → GatesRest storage) → (core : Core D) → is_halted core ≡ false → core.in_doubt ≡ [] → (IsTrue storage.is_honest → IsKept storage.files core) → RunsOn storage core core
  as_it_was leaves gates_rest core working settled kept = record {
    commits = [];
    runs = rests leaves gates_rest core core working kept (record { graph = refl; facts = λ _. refl; environment = λ _. refl; allowance = refl; latest = refl; disk = refl; generation = refl; end = refl; halted = working; settled = settled });
  }

  -- ---- an end

  -- at each moment of a commit of one event a crash leaves a prefix of this one commit
  pub begins : (IsTrue storage.is_honest → AppendLeaves storage) → (old new : Core D) (end : Event) → IsTrue storage.is_honest → CrashLeaves storage old new (end ∷ [])
      → Leaves storage old.vault.disk new.vault.disk (StandsForBeginning (graph old) (environment old) (facts old) [] ((end ∷ []) ∷ []))
  begins leaves old new end on it =
      leaves on old.vault new.vault (graph old) (environment old) (facts old) [] (end ∷ [])
      (subst (λ (E : Facts). Leaves storage old.vault.disk new.vault.disk (StandsBeforeOrAfter (graph old) E (with_facts (facts old) []) (end ∷ []))) (sym (with_nothing (environment old)))
      (subst (λ (X : Facts). Leaves storage old.vault.disk new.vault.disk (StandsBeforeOrAfter (graph old) (environment old) X (end ∷ []))) (sym (with_nothing (facts old))) it.facts))

  -- from the last moment of its call on the end is acknowledged
  acknowledged_at : (IsTrue storage.is_honest → HeldLeaves storage) → (old new : Core D) (end : Event) → Takes old new end → (IsTrue storage.is_honest → IsKept storage.files new) → (doubt : List Event) → (IsTrue storage.is_honest)
      → AcknowledgesFrom (graph old) (environment old) (facts old) (storage.left_at new.vault.disk) (storage.moment new.vault.disk) (storage.moment new.vault.disk) ((end ∷ []) ∷ []) [] (in_one doubt)
  acknowledged_at held old new end takes kept doubt on t contents after before was =
      let stands = (held on new.vault (graph new) (environment new) (facts new) ((kept on).holds takes.working.1)).each t contents after before was in
      let all : facts new ≡ with_facts (facts old) (event_facts end ++ []) = λ i fact. (takes.takes.facts fact ∙ ap (λ (list : List Fact). with_facts (facts old) list fact) (sym (append-nil (event_facts end)))) i in
      let given : environment new ≡ with_facts (environment old) (environment_facts end ++ []) = λ i fact.
      (takes.takes.environment fact ∙ ap (λ (list : List Fact). with_facts (environment old) list fact) (sym (append-nil (environment_facts end)))) i
      in
      record {
        made = [];
        later = in_one doubt;
        beginning = refl;
        stands =
            subst (λ (X : Facts). Stands contents (graph old) (with_facts (environment old) (environment_facts end ++ [])) X) all
            (subst (λ (E : Facts). Stands contents (graph old) E (facts new)) given (subst (λ (g : Graph). Stands contents g (environment new) (facts new)) takes.takes.graph stands));
      }

  -- one event that was taken
  pub acknowledged_once : (IsTrue storage.is_honest → AppendLeaves storage) → (IsTrue storage.is_honest → HeldLeaves storage) → (old new : Core D) (end : Event) → Takes old new end → (IsTrue storage.is_honest → CrashLeaves storage old new (end ∷ []))
      → (IsTrue storage.is_honest → IsKept storage.files new) → IsTrue storage.is_honest → AcknowledgesFrom (graph old) (environment old) (facts old) (storage.left_at new.vault.disk) (storage.moment new.vault.disk) (storage.moment old.vault.disk) [] ((end ∷ []) ∷ []) (in_one new.in_doubt)
  acknowledged_once leaves held old new end takes moments kept on =
      let crash = begins leaves old new end on (moments on) in
      (storage.moment new.vault.disk, crash.later, omega arith, λ t contents after before was. crash.each t contents after before was, acknowledged_at held old new end takes kept new.in_doubt on)

  pub ended : {T : Type 0} → (IsTrue storage.is_honest → AppendLeaves storage) → (IsTrue storage.is_honest → HeldLeaves storage) → (old new : Core D) (end : Event) (result : Result T CoreError) → is_halted old ≡ false → IsEnd end
      → Takes old new end → new.in_doubt ≡ [] → (IsTrue storage.is_honest → CrashLeaves storage old new (end ∷ [])) → (IsTrue storage.is_honest → IsKept storage.files new) → Halts storage old new result
      → Runs storage old new ((end ∷ []) ∷ [])
  ended leaves held old new end result working is takes settled moments kept halts =
      let one : end ∷ [] ++ new.in_doubt ≡ end ∷ [] = ap (λ (events : List Event). end ∷ events) settled in
      record {
        are_ends = subst (λ (events : List Event). AllByRecursion IsEnd events) (sym one) (is, tt);
        legal = subst (λ (events : List Event). AreLegalFrom (graph old) (facts old) events) (sym one) (takes.legal, tt);
        graph = takes.takes.graph;
        facts = λ fact. takes.takes.facts fact ∙ ap (λ (list : List Fact). with_facts (facts old) list fact) (sym (append-nil (event_facts end)));
        environment = λ fact. takes.takes.environment fact ∙ ap (λ (list : List Fact). with_facts (environment old) list fact) (puts_nothing end is) ∙ ap (λ (E : Facts). E fact) (with_nothing (environment old));
        spent = omega (arith, takes.allowance, costs_one end is);
        latest = takes.latest;
        generation = λ _. takes.generation;
        end = λ _. with_record new.vault.journal.end old.vault.journal.end (record_length end) takes.moved;
        crashes = λ on.
            subst (λ (events : List Event). Leaves storage old.vault.disk new.vault.disk (StandsForBeginning (graph old) (environment old) (facts old) [] ((end ∷ []) ∷ in_one events))) (sym settled)
            (begins leaves old new end on (moments on));
        acknowledged = acknowledged_once leaves held old new end takes moments kept;
        gates = λ on has. (moments on).gates has;
        halts = (λ halted. elim (halts.halts.0 halted) [ inl before ↦ absurd (false≢true (sym working ∙ before)) | inr erred ↦ erred ], λ erred. halts.halts.1 (inr erred));
        later = halts.disk.later;
        some_in_doubt = λ is. absurd (false≢true (sym takes.working.1 ∙ is));
      }

  -- ---- an end that is refused

  -- an error of the disk comes only where the end was legal
  pub legal_in_doubt : {T : Type 0} (old new : Core D) (causes : Refusal → Type 0) (end : Event) (error : CoreError) → Refuses old causes end error → Halts {T = T} storage old new (Err error)
      → Errs storage old.vault.disk new.vault.disk → IsLegal (graph old) (facts old) end
  legal_in_doubt {T} old new causes end error why halts (inl grew) = device error why (inside (halts.disk.device.1 grew))
    where
      inside : {cause : CoreError} → ◌≡◌ {A = Result T CoreError} (Err error) (Err cause) → error ≡ cause
      inside is = cc

      device : (e : CoreError) → Refuses old causes end e → e ≡ Store Device → IsLegal (graph old) (facts old) end
      device e refuses is = (subst (λ (x : CoreError). Refuses old causes end x) is refuses).1
  legal_in_doubt {T} old new causes end error why halts (inr changed) = memory error why (inside (halts.disk.refused changed))
    where
      inside : {cause : CoreError} → ◌≡◌ {A = Result T CoreError} (Err error) (Err cause) → error ≡ cause
      inside is = cc

      memory : (e : CoreError) → Refuses old causes end e → e ≡ Store NoMemory → IsLegal (graph old) (facts old) end
      memory e refuses is = (subst (λ (x : CoreError). Refuses old causes end x) is refuses).1

  pub refused : {T : Type 0} → (IsTrue storage.is_honest → AppendLeaves storage) → (IsTrue storage.is_honest → RestLeaves storage) → (IsTrue storage.is_honest → GatesRest storage) → (old new : Core D) (instance : Inst) (end : Event) (error : CoreError)
      → is_halted old ≡ false → old.in_doubt ≡ [] → 0 < old.allowance → (IsTrue storage.is_honest → IsKept storage.files old) → IsEnd end → GivesBack old new instance → Commits {T = T} storage old new (RefusesEnd (facts old)) end (Err error)
      → Halts {T = T} storage old new (Err error) → Runs storage old new []
  refused {T} leaves rest_leaves gates_rest old new instance end error working settled allowed kept is back commits halts = at (is_halted new) refl
    where
      at : (b : Bool) → is_halted new ≡ b → Runs storage old new []
      at false goes =
          let same = halts.same (goes ∙ sym working) in
          rests rest_leaves gates_rest old new working kept (record {
            graph = back.stays.graph;
            facts = back.stays.facts;
            environment = back.stays.environment;
            allowance = back.stays.allowance;
            latest = back.stays.latest;
            disk = same.0.disk;
            generation = same.0.generation;
            end = same.0.end;
            halted = goes;
            settled = same.1 ∙ settled;
          })
      at true stops =
          let doubt : new.in_doubt ≡ end ∷ [] = commits.doubt working stops in
          let erred : Errs storage old.vault.disk new.vault.disk = elim (halts.halts.0 stops) [ inl before ↦ absurd (false≢true (sym working ∙ before)) | inr it ↦ it ] in
          let legal = legal_in_doubt old new (RefusesEnd (facts old)) end error commits.refused halts erred in
          record {
            are_ends = subst (λ (events : List Event). AllByRecursion IsEnd events) (sym doubt) (is, tt);
            legal = subst (λ (events : List Event). AreLegalFrom (graph old) (facts old) events) (sym doubt) (legal, tt);
            graph = back.stays.graph;
            facts = λ fact. back.stays.facts fact ∙ ap (λ (X : Facts). X fact) (sym (with_nothing (facts old)));
            environment = back.stays.environment;
            spent = omega (arith, back.stays.allowance);
            latest = back.stays.latest;
            generation = λ goes. absurd (false≢true (sym goes ∙ stops));
            end = λ goes. absurd (false≢true (sym goes ∙ stops));
            crashes = λ on.
                subst (λ (events : List Event). Leaves storage old.vault.disk new.vault.disk (StandsForBeginning (graph old) (environment old) (facts old) [] (in_one events))) (sym doubt)
                (begins leaves old new end on (commits.moments on working));
            acknowledged = λ on t contents after before was.
                subst (λ (events : List Event). StandsForBeginning (graph old) (environment old) (facts old) [] (in_one events) contents) (sym doubt) ((begins leaves old new end on (commits.moments on working)).each t contents after before was);
            gates = λ on has. (commits.moments on working).gates has;
            halts = (λ _. erred, λ _. stops);
            later = halts.disk.later;
            some_in_doubt = λ _. let counted : length new.in_doubt ≡ 1 = ap length doubt in (omega (arith, counted), omega (arith, counted, allowed));
          }

  -- a finish is a run by itself
  pub finished : (IsTrue storage.is_honest → AppendLeaves storage) → (IsTrue storage.is_honest → HeldLeaves storage) → (IsTrue storage.is_honest → RestLeaves storage) → (IsTrue storage.is_honest → GatesRest storage)
      → (old new : Core D) (instance : Inst) (outcome : Outcome) (result : Result Committed CoreError)
      → is_halted old ≡ false → old.in_doubt ≡ [] → 0 < old.allowance → (IsTrue storage.is_honest → IsKept storage.files old)
      → Finishes storage old new instance outcome result → OnErr result (GivesBack old new instance)
      → Halts storage old new result → (IsTrue storage.is_honest → IsKept storage.files new) → EndRuns storage old new instance outcome result
  finished leaves held rest_leaves gates_rest old new instance outcome (Ok committed) working settled allowed kept it back halts kept_after = (
    it.end,
    it.is_end,
    it.told,
    ended leaves held old new it.end (Ok committed) working (is_end outcome instance it.end it.is_end) it.commits.takes halts.settled (λ on. it.commits.moments on working) kept_after halts,
  )
  finished leaves held rest_leaves gates_rest old new instance outcome (Err error) working settled allowed kept it back halts kept_after =
      refused leaves rest_leaves gates_rest old new instance it.end error working settled allowed kept (is_end outcome instance it.end it.is_end) back it.commits halts

  -- why it ends the run
  pub ends_early : {T : Type 0} (old new : Core D) (instance : Inst) (end : Event) (error : CoreError) → is_halted old ≡ false → 0 < old.allowance → HasNoFault (facts old) → IsEnd end → GivesBack old new instance
      → Refuses old (RefusesEnd (facts old)) end error → Halts {T = T} storage old new (Err error) → EndsEarly new error
  ends_early {T} old new instance end error working allowed none is back why halts goes = at error why refl
    where
      same : IsSame old.vault new.vault × (new.in_doubt ≡ old.in_doubt)
      same = halts.same (goes ∙ sym working)

      outside : {cause : CoreError} → error ≡ cause → ◌≡◌ {A = Result T CoreError} (Err error) (Err cause)
      outside is = cc

      at : (e : CoreError) → Refuses old (RefusesEnd (facts old)) end e → error ≡ e → (error ≡ Store NoMemory) ⊎ ((error ≡ Store Full) × IsFull new × (0 < new.allowance))
      at (Refused (Stopped stopped kind)) refuses told = absurd (false≢true (sym (none stopped kind) ∙ refuses.1))
      at (Refused NoSuchCollection) refuses told = absurd refuses.1
      at (Refused NotFromEnvironment) refuses told = absurd refuses.1
      at (Refused WrongArity) refuses told = absurd refuses.1
      at (Refused (AlreadyPut value)) refuses told = absurd refuses.1
      at (Refused Repeat) refuses told = absurd refuses.1
      at (Store Halted) refuses told = absurd (false≢true (sym working ∙ refuses))
      at (Store Device) refuses told = absurd (false≢true (sym goes ∙ halts.halts.1 (inr (inl (halts.disk.device.0 (outside told))))))
      at (Store NoMemory) refuses told = inl told
      at (Store Full) refuses told =
          let sets : facts old ≡ facts new = λ i fact. sym (back.stays.facts fact) i in
          let legal = subst (λ (g : Graph). IsLegal g (facts new) end) (sym back.stays.graph) (subst (λ (X : Facts). IsLegal (graph old) X end) sets refuses.1) in
          inr (told, (end, is, legal, subst (λ n. LIMIT ≤ n + record_length end) (sym same.0.end) refuses.2), omega (arith, back.stays.allowance, allowed))
      at (Store (Damaged side place)) refuses told = absurd refuses
      at (Store NotAStore) refuses told = absurd refuses
      at (Store Exists) refuses told = absurd refuses
