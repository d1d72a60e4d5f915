-- The whole of what a put and a finish promise, from the parts that the calls within them promise.
use Rattle.disk.specs.Storage.{ReportsAs}
use Rattle.disk.specs.declared.storage.Disk.{Ghosts}
use Rattle.std.proofs.Common.{◌≡◌, ◌∙◌, ap, sym, refl, subst, inl, inr, ◌⊎◌, true, Some, [], ◌∷◌, Result, Err, OnOk, OnErr, IfErr, arith}
use Rattle.std.proofs.lemmas.Bool.{false≢true}
use Rattle.std.specs.Prelude.{is_some, IsTrue}
use Rattle.terms.specs.declared.name.Inst.{Inst}
use Rattle.terms.specs.declared.name.Tag.{Tag}
use Rattle.terms.specs.declared.event.Event.{Event}
use Rattle.terms.specs.declared.event.Event.TheVariants.{EnvTag}
use Rattle.terms.specs.Sets.{Facts}
use Rattle.steptree.specs.Nameable.{Collection}
use Rattle.graph.specs.Graph.{Graph}
use Rattle.graph.specs.Fits.{TagIsOf}
use Rattle.instances.specs.declared.state.State.TheVariants.{Ready}
use Rattle.machine.specs.declared.refusal.Refusal.{Refusal}
use Rattle.machine.specs.declared.refusal.Refusal.TheVariants.{NoSuchCollection, NotFromEnvironment, WrongArity, AlreadyPut, Stopped, Repeat}
use Rattle.machine.specs.Legal.{IsLegal}
use Rattle.machine.specs.Machine.{RefusesEnd, RefusesTag}
use Rattle.machine.specs.Machine as machine
use Rattle.vault.specs.declared.vault.Vault.{Vault}
use Rattle.vault.specs.declared.error.VaultError.{VaultError}
use Rattle.vault.specs.declared.error.VaultError.TheVariants.{Device, NoMemory, Damaged, Full, NotAStore, Halted, Exists}
use Rattle.vault.specs.Commits.{HeldLeaves, GatesRest}
use Rattle.vault.specs.Store.{IsSame}
use Rattle.commit.specs.declared.error.CoreError.{CoreError}
use Rattle.commit.specs.declared.error.CoreError.TheVariants.{Refused, Store}
use Rattle.commit.specs.declared.outcome.Outcome.{Outcome}
use Rattle.commit.specs.declared.outcome.Committed.{Committed}
use Rattle.commit.specs.Calls.{CommitsAs, CrashLeaves, Halts, IsInDoubt, IsUnchanged, NoCause, Refuses, Takes, TellsFull}
use Rattle.commit.specs.Core.{Core, graph, facts, is_halted}
use Rattle.commit.specs.Kept.{IsKept}
use Rattle.commit.specs.Outcome.{IsEndOf}
use Rattle.commit.specs.Room.{GivesRoom, RefusesFirst}
use Rattle.commit.specs.Runs.{Ends}
use Rattle.commit.proofs.Answered.{on_err}
use Rattle.commit.proofs.Roomy.{commits, full_first, halts, refused_halted, rests, unhalted}

-- ---- tags

same_collection : {a b : Collection} → Some a ≡ Some b → a ≡ b
same_collection same = cc

refutes : (g : Graph) (X : Facts) (name : Tag) (refusal : Refusal) → RefusesTag g X name refusal → TagIsOf g name → (refusal ≡ NoSuchCollection) ⊎ (refusal ≡ WrongArity) → ⊥
refutes g X name NoSuchCollection why there which = false≢true (ap is_some (sym why ∙ there.1))
refutes g X name WrongArity why there which = why.2 (ap (λ (c : Collection). c.components) (same_collection (sym why.1 ∙ there.1)) ∙ there.2)
refutes g X name NotFromEnvironment why there (inl is) = cc
refutes g X name NotFromEnvironment why there (inr is) = cc
refutes g X name (Stopped instance kind) why there (inl is) = cc
refutes g X name (Stopped instance kind) why there (inr is) = cc
refutes g X name (AlreadyPut value) why there which = why
refutes g X name Repeat why there (inl is) = cc
refutes g X name Repeat why there (inr is) = cc

-- a tag of the environment that is refused is not legal
pub illegal_tag : (g : Graph) (X : Facts) (name : Tag) (refusal : Refusal) → RefusesTag g X name refusal → IsLegal g X (EnvTag name) → ⊥
illegal_tag g X name NoSuchCollection why legal = refutes g X name NoSuchCollection why legal.event_is_legal.0.0 (inl refl)
illegal_tag g X name WrongArity why legal = refutes g X name WrongArity why legal.event_is_legal.0.0 (inr refl)
illegal_tag g X name NotFromEnvironment why legal = false≢true (sym why.1 ∙ legal.event_is_legal.0.1)
illegal_tag g X name (Stopped instance kind) why legal = false≢true (sym (legal.working instance kind) ∙ why.1)
illegal_tag g X name (AlreadyPut value) why legal = why
illegal_tag g X name Repeat why legal = false≢true (sym legal.event_is_legal.1 ∙ why.2)

-- ---- a halted core

not_device : (Store Halted ≡ Store Device) → ⊥
not_device is = cc

not_no_memory : (Store Halted ≡ Store NoMemory) → ⊥
not_no_memory is = cc

-- it stays as it is
pub halted_still : {D T : Type 0} (storage : Ghosts D) (old new : Core D) → is_halted old ≡ true → new.vault ≡ old.vault → new.in_doubt ≡ old.in_doubt → Halts {T = T} storage old new (Err (Store Halted))
halted_still {D} {T} storage old new halted vault doubt = record {
  halts = (λ _. inl halted, λ _. ap (λ (v : Vault D). v.halted) vault ∙ halted);
  halted = (λ _. halted, λ _. refl);
  disk = subst (λ (v : Vault D). ReportsAs {T = T} storage (Store Device) (Store NoMemory) old.vault.disk v.disk (Err (Store Halted))) (sym vault) (record {
    device = (λ is. absurd (not_device (inside is)), λ grew. absurd (omega (arith, grew)));
    refused = λ changed. absurd (changed refl);
    later = omega arith;
  });
  same = λ _. (subst (λ (v : Vault D). IsSame old.vault v) (sym vault) (record { disk = refl; side = refl; end = refl; generation = refl; text = refl; halted = refl }), doubt);
  settled = tt;
}
  where
    inside : {cause : CoreError} → ◌≡◌ {A = Result T CoreError} (Err (Store Halted)) (Err cause) → Store Halted ≡ cause
    inside is = cc

-- ---- puts

module _ {D : Type 0} (storage : Ghosts D) (old mid : Core D) (room : GivesRoom old mid) where
  -- what room leaves unchanged
  pub unchanged : (new : Core D) → IsUnchanged mid new → IsUnchanged old new
  unchanged new it = record {
    stays = record {
      graph = it.stays.graph ∙ room.machine.graph;
      facts = λ fact. it.stays.facts fact ∙ room.machine.facts fact;
      environment = λ fact. it.stays.environment fact ∙ room.machine.environment fact;
      allowance = it.stays.allowance ∙ room.allowance;
      latest = it.stays.latest ∙ room.latest;
    };
    states = λ instance. it.states instance ∙ room.machine.states instance;
  }

  -- a put after room was made for it
  pub put_as : {T : Type 0} (new : Core D) (why : Refusal → Type 0) (event : Event) (result : Result T CoreError) → OnOk result (Takes mid new event) → OnErr result (IsUnchanged mid new) → IfErr result (Refuses mid NoCause event)
      → TellsFull mid event result → Halts storage mid new result → IsInDoubt mid new event result → (IsTrue storage.is_honest → CrashLeaves storage mid new (event ∷ []))
      → CommitsAs storage old new why event result
  put_as new why event result ok err refused full halting doubt moments = record {
    commits = commits old mid room storage new why event result (record { takes = ok; refused = refused; full = full; doubt = doubt; moments = λ on working. moments on });
    unchanged = on_err result (IsUnchanged mid new) (IsUnchanged old new) (unchanged new) err;
    halts = halts old mid room storage new result halting;
  }

  -- a put that is refused before that
  refuses : (why : Refusal → Type 0) (event : Event) (error : CoreError) → RefusesFirst old why event error → Refuses old why event error
  refuses why event (Refused refusal) it = it
  refuses why event (Store Halted) it = it
  refuses why event (Store NoMemory) it = it
  refuses why event (Store Full) it = absurd it
  refuses why event (Store Device) it = absurd it
  refuses why event (Store (Damaged side place)) it = absurd it
  refuses why event (Store NotAStore) it = absurd it
  refuses why event (Store Exists) it = absurd it

  refusal_apart : (refusal : Refusal) (error : VaultError) → Refused refusal ≡ Store error → ⊥
  refusal_apart refusal error is = cc

  pub memory_halts : Store NoMemory ≡ Store Halted → ⊥
  memory_halts is = cc

  pub memory_device : Store NoMemory ≡ Store Device → ⊥
  memory_device is = cc

  halts_first : {T : Type 0} (why : Refusal → Type 0) (event : Event) (error : CoreError) → RefusesFirst old why event error → Halts {T = T} storage old mid (Err error)
  halts_first {T} why event (Refused refusal) it = unhalted {T = T} storage old mid (Refused refusal) it.0 room.vault room.in_doubt (refusal_apart refusal Halted) (refusal_apart refusal Device)
  halts_first {T} why event (Store Halted) it = halted_still {T = T} storage old mid it room.vault room.in_doubt
  halts_first {T} why event (Store NoMemory) it = unhalted {T = T} storage old mid (Store NoMemory) it.0 room.vault room.in_doubt memory_halts memory_device
  halts_first why event (Store Full) it = absurd it
  halts_first why event (Store Device) it = absurd it
  halts_first why event (Store (Damaged side place)) it = absurd it
  halts_first why event (Store NotAStore) it = absurd it
  halts_first why event (Store Exists) it = absurd it

  pub refused_as : {T : Type 0} (why : Refusal → Type 0) (event : Event) (error : CoreError) → ((refusal : Refusal) → why refusal → IsLegal (graph old) (facts old) event → ⊥) → RefusesFirst old why event error
      → (IsTrue storage.is_honest → HeldLeaves storage) → (IsTrue storage.is_honest → GatesRest storage) → (IsTrue storage.is_honest → IsKept storage.files old) → CommitsAs {T = T} storage old mid why event (Err error)
  refused_as {T} why event error never it held gates kept = record {
    commits = record {
      takes = tt;
      refused = refuses why event error it;
      full = full_first {T = T} old why event error never it;
      doubt = λ working stops. absurd (false≢true (sym working ∙ ap (λ (v : Vault D). v.halted) (sym room.vault) ∙ stops));
      moments = λ on working. rests storage old mid (event ∷ []) (held on) (gates on) (kept on) working room.vault;
    };
    unchanged = record {
      stays = record { graph = room.machine.graph; facts = room.machine.facts; environment = room.machine.environment; allowance = room.allowance; latest = room.latest };
      states = room.machine.states;
    };
    halts = halts_first {T = T} why event error it;
  }

-- ---- a finish of a halted core

pub ends_halted : {D : Type 0} (storage : Ghosts D) (old new : Core D) (task : Inst) (outcome : Outcome) (end : Event) → IsEndOf outcome task end
    → is_halted old ≡ true → machine.Moves old.machine new.machine task Ready → new.vault ≡ old.vault → new.in_doubt ≡ old.in_doubt → new.latest ≡ old.latest → new.allowance ≡ old.allowance
    → Ends storage old new task outcome (Err (Store Halted))
ends_halted storage old new task outcome end is_end halted moves vault doubt latest allowance = record {
  finishes = record { end = end; is_end = is_end; commits = refused_halted {T = Committed} storage old new (RefusesEnd (facts old)) end halted; told = tt };
  err = record {
    stays = record { graph = moves.graph; facts = moves.facts; environment = moves.environment; allowance = allowance; latest = latest };
    ready = moves.here;
    others = moves.others;
  };
  halts = halted_still {T = Committed} storage old new halted vault doubt;
  runs = λ working. absurd (false≢true (sym working ∙ halted));
}
