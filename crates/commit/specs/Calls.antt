-- What the calls of a core promise: the event that comes at `Ok`, and what an error says and leaves.
use Rattle.disk.specs.Storage.{Errs, Leaves, ReportsAs}
use Rattle.disk.specs.declared.storage.Disk.{Ghosts}
use Rattle.std.specs.Prelude.{◌≡◌, ◌≢◌, ◌⊎◌, ◌↔◌, ◌≤◌, ◌+◌, ℕ, true, false, List, [], ◌∷◌, length, Result, Some, IsErrOf, OnOk, OnErr, IfErr, IsTrue, ℤ}
use Rattle.terms.specs.declared.name.Inst.{Inst}
use Rattle.terms.specs.declared.event.Event.{Event}
use Rattle.terms.specs.declared.event.Event.TheVariants.{EnvItem, EnvTag, Done, Stopped}
use Rattle.terms.specs.Commits.{Commit}
use Rattle.terms.specs.Facts.{Fact}
use Rattle.journal.specs.declared.journal.TheConstants.{LIMIT}
use Rattle.instances.specs.declared.state.State.TheVariants.{Ready}
use Rattle.machine.specs.declared.refusal.Refusal.{Refusal}
use Rattle.machine.specs.Legal.{IsLegal}
use Rattle.machine.specs.Machine as machine
use Rattle.vault.specs.declared.error.VaultError.TheVariants.{Device, NoMemory, Damaged, Full, NotAStore, Halted, Exists}
use Rattle.vault.specs.Store.{IsSame, HasGates, StandsBeforeOrAfter}
use Rattle.vault.specs.Groups.{records_of}
use Rattle.vault.specs.Opened.{contents_of}
use Rattle.commit.specs.declared.error.CoreError.{CoreError}
use Rattle.commit.specs.declared.error.CoreError.TheVariants.{Refused, Store}
use Rattle.commit.specs.Core.{Core, graph, facts, environment, state_of, is_halted}
use Rattle.terms.specs.declared.name.Addr.{Addr}
use Rattle.terms.specs.declared.name.Tag.{Tag}

-- ---- events

-- how much of the allowance an event uses: one for a step, and nothing for a put of the environment
abbrev pub step_count : Event → ℕ
step_count (EnvItem address value) = 0
step_count (EnvTag name) = 0
step_count (Done instance puts) = 1
step_count (Stopped instance kind) = 1

-- how many bytes the records of a commit have, and the record of one event
abbrev pub commit_length : Commit → ℕ
commit_length commit = length (records_of commit)

abbrev pub record_length : Event → ℕ
record_length event = commit_length (event ∷ [])

-- The event was legal, and was taken: into the state in memory, and into the journal of the live side, which ends after its record now. It is the latest
-- commit.
pub record Takes {D : Type 0} (old new : Core D) (event : Event) : Type 0 where
  pub legal : IsLegal (graph old) (facts old) event
  pub takes : machine.Takes old.machine new.machine event
  pub working : (is_halted old ≡ false) × (is_halted new ≡ false)
  pub moved : new.vault.journal.end ≡ old.vault.journal.end + record_length event
  pub latest : new.latest ≡ event ∷ []
  pub allowance : new.allowance + step_count event ≡ old.allowance
  pub generation : new.vault.generation ≡ old.vault.generation

-- No fact has changed, the allowance has not, and nothing was committed.
pub record Stays {D : Type 0} (old new : Core D) : Type 0 where
  pub graph : graph new ≡ graph old
  pub facts : (fact : Fact) → facts new fact ≡ facts old fact
  pub environment : (fact : Fact) → environment new fact ≡ environment old fact
  pub allowance : new.allowance ≡ old.allowance
  pub latest : new.latest ≡ old.latest

-- in addition, no instance has changed its state
pub record IsUnchanged {D : Type 0} (old new : Core D) : Type 0 where
  pub stays : Stays old new
  pub states : (instance : Inst) → state_of new instance ≡ state_of old instance

-- in addition, one instance is ready again, and no other has changed its state
pub record GivesBack {D : Type 0} (old new : Core D) (instance : Inst) : Type 0 where
  pub stays : Stays old new
  pub ready : state_of new instance ≡ Some Ready
  pub others : (other : Inst) → other ≢ instance → state_of new other ≡ state_of old other

-- ---- refusals

-- the closed gate after the records of the commit, or that of the event, would not lie below the limit
abbrev pub AreTooLong : {D : Type 0} → Core D → Commit → Type 0
AreTooLong c commit = LIMIT ≤ c.vault.journal.end + commit_length commit

abbrev pub IsTooLong : {D : Type 0} → Core D → Event → Type 0
IsTooLong c event = AreTooLong c (event ∷ [])

-- Why an event is refused. A halted core returns `Halted`, and nothing else. Then come the causes why the event may not come; an event that
-- may come is refused if its record does not fit, if the device failed, or if memory was refused.
abbrev pub Refuses : {D : Type 0} → Core D → (Refusal → Type 0) → Event → CoreError → Type 0
Refuses c why event (Refused refusal) = (is_halted c ≡ false) × why refusal
Refuses c why event (Store Halted) = is_halted c ≡ true
Refuses c why event (Store Full) = (is_halted c ≡ false) × IsLegal (graph c) (facts c) event × IsTooLong c event
Refuses c why event (Store Device) = (is_halted c ≡ false) × IsLegal (graph c) (facts c) event
Refuses c why event (Store NoMemory) = (is_halted c ≡ false) × IsLegal (graph c) (facts c) event
Refuses c why event (Store (Damaged side place)) = ⊥
Refuses c why event (Store NotAStore) = ⊥
Refuses c why event (Store Exists) = ⊥

-- If the core is not halted, and the record of an event that may come does not fit, `Full` is returned, or `NoMemory` if memory was refused first.
abbrev pub TellsFull : {D T : Type 0} → Core D → Event → Result T CoreError → Type 0
TellsFull c event result = is_halted c ≡ false → IsLegal (graph c) (facts c) event → IsTooLong c event → IsErrOf result (Store Full) ⊎ IsErrOf result (Store NoMemory)

-- why a call refuses an event, and when it says that its record does not fit
pub record RefusesAs {D T : Type 0} (c : Core D) (why : Refusal → Type 0) (event : Event) (result : Result T CoreError) : Type 0 where
  pub refused : IfErr result (Refuses c why event)
  pub full : TellsFull c event result

-- ---- halts

-- When a call halts: exactly if a call of the disk returned an error. Which error it returns then, what another one leaves, and what is in
-- doubt from then on.
pub record Halts {D T : Type 0} (storage : Ghosts D) (old new : Core D) (result : Result T CoreError) : Type 0 where
  pub halts : (is_halted new ≡ true) ↔ ((is_halted old ≡ true) ⊎ Errs storage old.vault.disk new.vault.disk)
  pub halted : IsErrOf result (Store Halted) ↔ (is_halted old ≡ true)
  pub disk : ReportsAs storage (Store Device) (Store NoMemory) old.vault.disk new.vault.disk result
  -- if an error does not halt it, nothing on the disk has changed
  pub same : OnErr result (is_halted new ≡ is_halted old → IsSame old.vault new.vault × (new.in_doubt ≡ old.in_doubt))
  pub settled : OnOk result (new.in_doubt ≡ [])

-- the commit, or the event, is in doubt, if this call halted the core
abbrev pub AreInDoubt : {D T : Type 0} → Core D → Core D → Commit → Result T CoreError → Type 0
AreInDoubt old new commit result = OnErr result (is_halted old ≡ false → is_halted new ≡ true → new.in_doubt ≡ commit)

abbrev pub IsInDoubt : {D T : Type 0} → Core D → Core D → Event → Result T CoreError → Type 0
IsInDoubt old new event result = AreInDoubt old new (event ∷ []) result

-- in addition, it is in doubt
pub record HaltsInDoubt {D T : Type 0} (storage : Ghosts D) (old new : Core D) (commit : Commit) (result : Result T CoreError) : Type 0 where
  pub halts : Halts storage old new result
  pub doubt : AreInDoubt old new commit result

-- ---- crashes

-- What a crash leaves at any moment of a call that commits these events at `Ok`: the facts before them or after them, and nothing between. If each file
-- has a first byte, each file keeps one.
pub record CrashLeaves {D : Type 0} (storage : Ghosts D) (old new : Core D) (events : List Event) : Type 0 where
  pub facts : Leaves storage old.vault.disk new.vault.disk (StandsBeforeOrAfter (graph old) (environment old) (facts old) events)
  pub gates : HasGates (contents_of (storage.files old.vault.disk)) → Leaves storage old.vault.disk new.vault.disk HasGates

-- no cause of a refusal
abbrev pub NoCause : Refusal → Type 0
NoCause refusal = ⊥

-- ---- one event

-- A call that commits this event at `Ok`: the event was legal, and was taken; or why it is refused, and what is in doubt if it halted. A crash at any
-- moment of it leaves the facts before the event or after it.
pub record Commits {D T : Type 0} (storage : Ghosts D) (old new : Core D) (why : Refusal → Type 0) (event : Event) (result : Result T CoreError) : Type 0 where
  pub takes : OnOk result (Takes old new event)
  pub refused : IfErr result (Refuses old why event)
  pub full : TellsFull old event result
  pub doubt : IsInDoubt old new event result
  pub moments : IsTrue storage.is_honest → is_halted old ≡ false → CrashLeaves storage old new (event ∷ [])

-- The whole of such a call: it also says what is unchanged at an error, and when it halts.
pub record CommitsAs {D T : Type 0} (storage : Ghosts D) (old new : Core D) (why : Refusal → Type 0) (event : Event) (result : Result T CoreError) : Type 0 where
  pub commits : Commits storage old new why event result
  pub unchanged : OnErr result (IsUnchanged old new)
  pub halts : Halts storage old new result

-- such a call of the environment: it puts an item, or a tag
abbrev pub PutsItem : {D T : Type 0} → Ghosts D → Core D → Core D → Addr → ℤ → Result T CoreError → Type 0
PutsItem storage old new address value result = CommitsAs storage old new (machine.RefusesItem (graph old) (facts old) address) (EnvItem address value) result

abbrev pub PutsTag : {D T : Type 0} → Ghosts D → Core D → Core D → Tag → Result T CoreError → Type 0
PutsTag storage old new tag result = CommitsAs storage old new (machine.RefusesTag (graph old) (facts old) tag) (EnvTag tag) result

-- nothing has changed but the states of instances and the allowance: such is each claim, park, release and allowance, and each call of a halted core
pub record KeepsStore {D : Type 0} (old new : Core D) : Type 0 where
  pub graph : graph new ≡ graph old
  pub facts : (fact : Fact) → facts new fact ≡ facts old fact
  pub environment : (fact : Fact) → environment new fact ≡ environment old fact
  pub vault : IsSame old.vault new.vault
  pub in_doubt : new.in_doubt ≡ old.in_doubt
  pub latest : new.latest ≡ old.latest
