-- What is committed after room was made is committed from the state before that.
use Rattle.std.proofs.Common.{◌≡◌, ◌∙◌, ◌↔◌, ◌⊎◌, ◌≤◌, ◌+◌, ◌||◌, ap, sym, refl, subst, inl, inr, ℤ, true, false, List, [], ◌∷◌, Result, Ok, Err, IsErrOf, arith, IsTrue}
use Rattle.std.proofs.lemmas.Bool.{false≢true}
use Rattle.disk.specs.Storage.{Errs, Leaves, ReportsAs}
use Rattle.disk.specs.declared.storage.Disk.{Ghosts}
use Rattle.disk.specs.Moments.{weakened}
use Rattle.terms.specs.declared.name.Addr.{Addr}
use Rattle.terms.specs.declared.name.Inst.{Inst}
use Rattle.instances.specs.declared.state.State.TheVariants.{Ready}
use Rattle.terms.specs.declared.event.Event.{Event}
use Rattle.terms.specs.declared.event.Event.TheVariants.{EnvItem}
use Rattle.terms.specs.Facts.{event_facts, environment_facts}
use Rattle.terms.specs.Sets.{Facts, among}
use Rattle.graph.specs.Graph.{Graph}
use Rattle.journal.specs.declared.journal.TheConstants.{LIMIT}
use Rattle.machine.specs.declared.refusal.Refusal.{Refusal}
use Rattle.machine.specs.declared.refusal.Refusal.TheVariants.{NoSuchCollection, NotFromEnvironment, WrongArity, AlreadyPut, Stopped, Repeat}
use Rattle.machine.specs.Legal.{IsLegal}
use Rattle.machine.specs.Machine.{GoesOn, RefusesItem, state_of as state_in}
use Rattle.machine.specs.Memory.{facts_of}
use Rattle.vault.specs.declared.vault.Vault.{Vault}
use Rattle.vault.specs.declared.error.VaultError.{VaultError}
use Rattle.vault.specs.declared.error.VaultError.TheVariants.{Device, NoMemory, Damaged, Full, NotAStore, Halted, Exists}
use Rattle.vault.specs.Commits.{HeldLeaves, GatesRest}
use Rattle.vault.specs.Opened.{contents_of}
use Rattle.vault.specs.Stands.{Stands}
use Rattle.vault.specs.Store.{HasGates, IsSame, StandsBeforeOrAfter}
use Rattle.commit.specs.declared.error.CoreError.{CoreError}
use Rattle.commit.specs.declared.error.CoreError.TheVariants.{Refused, Store}
use Rattle.commit.specs.Core.{Core, graph, facts, environment, is_halted}
use Rattle.commit.specs.Calls.{Commits, Takes, GivesBack, Halts, Refuses, NoCause, TellsFull, IsInDoubt, CrashLeaves, record_length}
use Rattle.commit.specs.Steps.{Moves}
use Rattle.commit.proofs.Answered.{if_err, on_err, on_ok}
use Rattle.commit.specs.Kept.{IsKept}
use Rattle.commit.specs.Room.{GivesRoom, RefusesFirst}
use Rattle.commit.proofs.Ran.{refutes}

module _ {D : Type 0} (old mid : Core D) (room : GivesRoom old mid) where
  halted : is_halted mid ≡ is_halted old
  halted = ap (λ (v : Vault D). v.halted) room.vault

  sets : facts mid ≡ facts old
  sets = λ i fact. room.machine.facts fact i

  given : environment mid ≡ environment old
  given = λ i fact. room.machine.environment fact i

  legal_before : (event : Event) → IsLegal (graph mid) (facts mid) event → IsLegal (graph old) (facts old) event
  legal_before event legal =
      let there : IsLegal (graph old) (facts mid) event = subst (λ (g : Graph). IsLegal g (facts mid) event) room.machine.graph legal in
      subst (λ (X : Facts). IsLegal (graph old) X event) sets there

  -- the event is taken
  pub takes : (new : Core D) (event : Event) → Takes mid new event → Takes old new event
  takes new event it = record {
    legal = legal_before event it.legal;
    takes = record {
      graph = it.takes.graph ∙ room.machine.graph;
      facts = λ fact. it.takes.facts fact ∙ ap (λ b. b || among (event_facts event) fact) (room.machine.facts fact);
      environment = λ fact. it.takes.environment fact ∙ ap (λ b. b || among (environment_facts event) fact) (room.machine.environment fact);
      states = λ i other. subst (λ s. GoesOn (facts_of new.machine.memory) s (state_in new.machine i)) (room.machine.states i) (it.takes.states i other);
      ends = it.takes.ends;
      item_room = λ c. omega (arith, room.machine.item_room c, it.takes.item_room c);
      tag_room = λ c. omega (arith, room.machine.tag_room c, it.takes.tag_room c);
    };
    working = (sym halted ∙ it.working.0, it.working.1);
    moved = it.moved ∙ ap (λ (v : Vault D). v.journal.end + record_length event) room.vault;
    latest = it.latest;
    allowance = it.allowance ∙ room.allowance;
    generation = it.generation ∙ ap (λ (v : Vault D). v.generation) room.vault;
  }

  -- or it is refused
  pub refuses : (why : Refusal → Type 0) (event : Event) (error : CoreError) → Refuses mid NoCause event error → Refuses old why event error
  refuses why event (Refused refusal) it = absurd it.1
  refuses why event (Store Halted) it = sym halted ∙ it
  refuses why event (Store Full) it = (sym halted ∙ it.0, legal_before event it.1, subst (λ (v : Vault D). LIMIT ≤ v.journal.end + record_length event) room.vault it.2)
  refuses why event (Store Device) it = (sym halted ∙ it.0, legal_before event it.1)
  refuses why event (Store NoMemory) it = (sym halted ∙ it.0, legal_before event it.1)
  refuses why event (Store (Damaged side place)) it = absurd it
  refuses why event (Store NotAStore) it = absurd it
  refuses why event (Store Exists) it = absurd it

  -- at each moment a crash leaves what it may
  pub moments : (storage : Ghosts D) (new : Core D) (events : List Event) → CrashLeaves storage mid new events → CrashLeaves storage old new events
  moments storage new events it = record {
    facts =
        let from = subst (λ (v : Vault D). Leaves storage v.disk new.vault.disk (StandsBeforeOrAfter (graph mid) (environment mid) (facts mid) events)) room.vault it.facts in
        let of_graph = subst (λ (g : Graph). Leaves storage old.vault.disk new.vault.disk (StandsBeforeOrAfter g (environment mid) (facts mid) events)) room.machine.graph from in
        let of_given = subst (λ (E : Facts). Leaves storage old.vault.disk new.vault.disk (StandsBeforeOrAfter (graph old) E (facts mid) events)) given of_graph in
        subst (λ (X : Facts). Leaves storage old.vault.disk new.vault.disk (StandsBeforeOrAfter (graph old) (environment old) X events)) sets of_given;
    gates = λ has.
        subst (λ (v : Vault D). Leaves storage v.disk new.vault.disk HasGates) room.vault
        (it.gates (subst (λ (v : Vault D). HasGates (contents_of (storage.files v.disk))) (sym room.vault) has));
  }

  -- if the event may come, and its record does not fit, `Full` is returned
  pub tells_full : {T : Type 0} (event : Event) (result : Result T CoreError) → TellsFull mid event result → TellsFull old event result
  tells_full event result it working legal long =
      it (halted ∙ working) (room.machine.legal event legal) (subst (λ (v : Vault D). LIMIT ≤ v.journal.end + record_length event) (sym room.vault) long)

  -- all of it together
  pub commits :
      {T : Type 0} (storage : Ghosts D) (new : Core D) (why : Refusal → Type 0) (event : Event) (result : Result T CoreError) →
      Commits storage mid new NoCause event result → Commits storage old new why event result
  commits storage new why event result it = record {
    takes = on_ok result (Takes mid new event) (Takes old new event) (takes new event) it.takes;
    refused = if_err result (Refuses mid NoCause event) (Refuses old why event) (refuses why event) it.refused;
    full = tells_full event result it.full;
    doubt = on_err result (is_halted mid ≡ false → is_halted new ≡ true → new.in_doubt ≡ event ∷ []) (is_halted old ≡ false → is_halted new ≡ true → new.in_doubt ≡ event ∷ []) (λ so working. so (halted ∙ working)) it.doubt;
    moments = λ on working. moments storage new (event ∷ []) (it.moments on (halted ∙ working));
  }

  pub gives_back : (new : Core D) (instance : Inst) → GivesBack mid new instance → GivesBack old new instance
  gives_back new instance it = record {
    stays = record {
      graph = it.stays.graph ∙ room.machine.graph;
      facts = λ fact. it.stays.facts fact ∙ room.machine.facts fact;
      environment = λ fact. it.stays.environment fact ∙ room.machine.environment fact;
      allowance = it.stays.allowance ∙ room.allowance;
      latest = it.stays.latest ∙ room.latest;
    };
    ready = it.ready;
    others = λ other differs. it.others other differs ∙ room.machine.states other;
  }

  pub halts : {T : Type 0} (storage : Ghosts D) (new : Core D) (result : Result T CoreError) → Halts storage mid new result → Halts storage old new result
  halts storage new result it = record {
    halts = subst (λ (v : Vault D). (is_halted new ≡ true) ↔ ((v.halted ≡ true) ⊎ Errs storage v.disk new.vault.disk)) room.vault it.halts;
    halted = subst (λ (v : Vault D). IsErrOf result (Store Halted) ↔ (v.halted ≡ true)) room.vault it.halted;
    disk = subst (λ (v : Vault D). ReportsAs storage (Store Device) (Store NoMemory) v.disk new.vault.disk result) room.vault it.disk;
    same = on_err result (is_halted new ≡ is_halted mid → IsSame mid.vault new.vault × (new.in_doubt ≡ mid.in_doubt)) (is_halted new ≡ is_halted old → IsSame old.vault new.vault × (new.in_doubt ≡ old.in_doubt))
        (λ so is. let both = so (is ∙ sym halted) in (subst (λ (v : Vault D). IsSame v new.vault) room.vault both.0, both.1 ∙ room.in_doubt)) it.same;
    settled = it.settled;
  }

  -- an instance that is given back after room was made
  pub released : (new : Core D) (instance : Inst) → Moves mid new instance Ready → GivesBack old new instance
  released new instance moves = record {
    stays = record {
      graph = moves.machine.graph ∙ room.machine.graph;
      facts = λ fact. moves.machine.facts fact ∙ room.machine.facts fact;
      environment = λ fact. moves.machine.environment fact ∙ room.machine.environment fact;
      allowance = moves.allowance ∙ room.allowance;
      latest = moves.latest ∙ room.latest;
    };
    ready = moves.machine.here;
    others = λ other differs. moves.machine.others other differs ∙ room.machine.states other;
  }

-- if nothing on the disk changes, a crash leaves what is held
pub rests : {D : Type 0} (storage : Ghosts D) (old new : Core D) (events : List Event) → HeldLeaves storage → GatesRest storage
    → IsKept storage.files old → is_halted old ≡ false → new.vault ≡ old.vault → CrashLeaves storage old new events
rests storage old new events leaves gates kept working same =
    let holds = kept.holds working in
    record {
      facts =
          subst (λ v. Leaves storage old.vault.disk v.disk (StandsBeforeOrAfter (graph old) (environment old) (facts old) events)) (sym same)
          (weakened storage.moment storage.left_at old.vault.disk old.vault.disk (λ c. Stands c (graph old) (environment old) (facts old)) (StandsBeforeOrAfter (graph old) (environment old) (facts old) events)
          (leaves old.vault (graph old) (environment old) (facts old) holds) (λ c stands. inl stands));
      gates = λ has. subst (λ v. Leaves storage old.vault.disk v.disk HasGates) (sym same) (gates old.vault (graph old) (environment old) (facts old) holds has);
    }

-- an item of the environment that is refused is not legal
pub illegal_item : (g : Graph) (X : Facts) (address : Addr) (value : ℤ) (refusal : Refusal) → RefusesItem g X address refusal → IsLegal g X (EnvItem address value) → ⊥
illegal_item g X address value NoSuchCollection why legal = refutes g address NoSuchCollection why legal.event_is_legal.0.0
illegal_item g X address value WrongArity why legal = refutes g address WrongArity why legal.event_is_legal.0.0
illegal_item g X address value NotFromEnvironment why legal = false≢true (sym why.1 ∙ legal.event_is_legal.0.1)
illegal_item g X address value (Stopped instance kind) why legal = false≢true (sym (legal.working instance kind) ∙ why.1)
illegal_item g X address value (AlreadyPut there) why legal = false≢true (sym (legal.event_is_legal.1 there why.2.0) ∙ why.2.1)
illegal_item g X address value Repeat why legal = why

-- if an event may come, and its record does not fit, an error before that is `NoMemory`
pub full_first : {D T : Type 0} (old : Core D) (why : Refusal → Type 0) (event : Event) (error : CoreError)
    → ((refusal : Refusal) → why refusal → IsLegal (graph old) (facts old) event → ⊥) → RefusesFirst old why event error → TellsFull {T = T} old event (Err error)
full_first old why event (Refused refusal) never it working legal long = absurd (never refusal it.1 legal)
full_first old why event (Store Halted) never it working legal long = absurd (false≢true (sym working ∙ it))
full_first old why event (Store NoMemory) never it working legal long = inr refl
full_first old why event (Store Full) never it working legal long = absurd it
full_first old why event (Store Device) never it working legal long = absurd it
full_first old why event (Store (Damaged side place)) never it working legal long = absurd it
full_first old why event (Store NotAStore) never it working legal long = absurd it
full_first old why event (Store Exists) never it working legal long = absurd it

-- an error that is returned before anything is written
pub refused_first :
    {D T : Type 0} (storage : Ghosts D) (old new : Core D) (why : Refusal → Type 0) (event : Event) (error : CoreError) →
    Refuses old why event error → (IsLegal (graph old) (facts old) event → (error ≡ Store NoMemory) ⊎ ⊥) → is_halted new ≡ is_halted old →
    (IsTrue storage.is_honest → is_halted old ≡ false → CrashLeaves storage old new (event ∷ [])) → Commits {T = T} storage old new why event (Err error)
refused_first storage old new why event error refuses legal same moments = record {
  takes = tt;
  refused = refuses;
  full = λ working may long. elim (legal may) [ inl is ↦ inr (ap Err is) | inr never ↦ absurd never ];
  doubt = λ working halts. absurd (false≢true (sym working ∙ sym same ∙ halts));
  moments = moments;
}

pub unhalted :
    {D T : Type 0} (storage : Ghosts D) (old new : Core D) (error : CoreError) → is_halted old ≡ false → new.vault ≡ old.vault → new.in_doubt ≡ old.in_doubt →
    ((error ≡ Store Halted) → ⊥) → ((error ≡ Store Device) → ⊥) → Halts {T = T} storage old new (Err error)
unhalted {T = T} storage old new error working vault doubt not_halted not_device = record {
  halts = (λ is. inl (sym (ap (λ v. v.halted) vault) ∙ is), λ either. elim either [ inl is ↦ ap (λ v. v.halted) vault ∙ is | inr erred ↦ absurd (never erred) ]);
  halted = (λ is. absurd (not_halted (inside is)), λ is. absurd (false≢true (sym working ∙ is)));
  disk = subst (λ v. ReportsAs {T = T} storage (Store Device) (Store NoMemory) old.vault.disk v.disk (Err error)) (sym vault) (record {
    device = (λ is. absurd (not_device (inside is)), λ grew. absurd (omega (arith, grew)));
    refused = λ changed. absurd (changed refl);
    later = omega arith;
  });
  same = λ _. (subst (λ v. IsSame old.vault v) (sym vault) (record { disk = refl; side = refl; end = refl; generation = refl; text = refl; halted = refl }), doubt);
  settled = tt;
}
  where
    inside : {cause : CoreError} → ◌≡◌ {A = Result T CoreError} (Err error) (Err cause) → error ≡ cause
    inside is = cc

    never : Errs storage old.vault.disk new.vault.disk → ⊥
    never erred = elim (subst (λ v. Errs storage old.vault.disk v.disk) vault erred) [ inl grew ↦ absurd (omega (arith, grew)) | inr changed ↦ changed refl ]

-- the same, returned with another value
module _ {D T U : Type 0} (storage : Ghosts D) (old new : Core D) (event : Event) where
  pub commits_ok : (given : T) (value : U) → Takes old new event → TellsFull {T = T} old event (Ok given) → (IsTrue storage.is_honest → CrashLeaves storage old new (event ∷ []))
      → Commits {T = U} storage old new NoCause event (Ok value)
  commits_ok given value takes full moments = record {
    takes = takes;
    refused = tt;
    full = λ working legal long. elim (full working legal long) [ inl is ↦ absurd (never Full is) | inr is ↦ absurd (never NoMemory is) ];
    doubt = tt;
    moments = λ on working. moments on;
  }
    where
      never : (cause : VaultError) → ◌≡◌ {A = Result T CoreError} (Ok given) (Err (Store cause)) → ⊥
      never cause is = cc

  pub commits_err : (error : CoreError) → Refuses old NoCause event error → TellsFull {T = T} old event (Err error) → IsInDoubt {T = T} old new event (Err error) → (IsTrue storage.is_honest → CrashLeaves storage old new (event ∷ []))
      → Commits {T = U} storage old new NoCause event (Err error)
  commits_err error refused full doubt moments = record {
    takes = tt;
    refused = refused;
    full = λ working legal long. elim (full working legal long) [ inl is ↦ inl (other Full is) | inr is ↦ inr (other NoMemory is) ];
    doubt = doubt;
    moments = λ on working. moments on;
  }
    where
      other : (cause : VaultError) → ◌≡◌ {A = Result T CoreError} (Err error) (Err (Store cause)) → ◌≡◌ {A = Result U CoreError} (Err error) (Err (Store cause))
      other cause is = cc

-- a commit that is refused for no cause keeps its promises for any causes
pub with_cause :
    {D T : Type 0} (storage : Ghosts D) (old new : Core D) (why : Refusal → Type 0) (event : Event) (result : Result T CoreError) →
    Commits storage old new NoCause event result → Commits storage old new why event result
with_cause storage old new why event result it = record {
  takes = it.takes;
  refused = if_err result (Refuses old NoCause event) (Refuses old why event) other it.refused;
  full = it.full;
  doubt = it.doubt;
  moments = it.moments;
}
  where
    other : (error : CoreError) → Refuses old NoCause event error → Refuses old why event error
    other (Refused refusal) is = absurd is.1
    other (Store Halted) is = is
    other (Store Full) is = is
    other (Store Device) is = is
    other (Store NoMemory) is = is
    other (Store (Damaged side place)) is = absurd is
    other (Store NotAStore) is = absurd is
    other (Store Exists) is = absurd is

-- a halted core refuses everything
pub refused_halted :
    {D T : Type 0} (storage : Ghosts D) (old new : Core D) (why : Refusal → Type 0) (event : Event) →
    is_halted old ≡ true → Commits {T = T} storage old new why event (Err (Store Halted))
refused_halted storage old new why event halted = record {
  takes = tt;
  refused = halted;
  full = λ working legal long. absurd (false≢true (sym working ∙ halted));
  doubt = λ working. absurd (false≢true (sym working ∙ halted));
  moments = λ on working. absurd (false≢true (sym working ∙ halted));
}
