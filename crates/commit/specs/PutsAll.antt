-- Several puts of the environment that are committed as one: how many of them come, and what is promised of them.
use Rattle.disk.specs.declared.storage.Disk.{Ghosts}
use Rattle.std.specs.Prelude.{◌≡◌, ◌+◌, ◌<◌, ℕ, true, false, List, [], ◌∷◌, length, take, Result, Ok, Err, IfOk, IfErr, OnOk, OnErr, IsTrue}
use Rattle.terms.specs.declared.event.Event.{Event}
use Rattle.terms.specs.Commits.{Commit}
use Rattle.machine.specs.Group.{TakesInTurn}
use Rattle.machine.specs.Puts.{PutsTogether}
use Rattle.vault.specs.declared.error.VaultError.TheVariants.{Device, NoMemory, Damaged, Full, NotAStore, Halted, Exists}
use Rattle.commit.specs.declared.error.CoreError.{CoreError}
use Rattle.commit.specs.declared.error.CoreError.TheVariants.{Refused, Store}
use Rattle.commit.specs.Batch.{TellsFullAll}
use Rattle.commit.specs.Calls.{AreInDoubt, AreTooLong, CrashLeaves, Halts, IsUnchanged, commit_length}
use Rattle.commit.specs.Core.{Core, facts, graph, is_halted}
use Rattle.commit.specs.Runs.{in_one}
use Rattle.commit.specs.Went.{GoesOn}

-- The commit was taken: into the state in memory, one put after another, and into the journal of the live side as one record, after which it ends now. It is
-- the latest commit. A put of the environment uses nothing of the allowance.
pub record TakesPuts {D : Type 0} (old new : Core D) (commit : Commit) : Type 0 where
  pub takes : TakesInTurn old.machine commit new.machine
  pub working : (is_halted old ≡ false) × (is_halted new ≡ false)
  pub moved : new.vault.journal.end ≡ old.vault.journal.end + commit_length commit
  pub latest : new.latest ≡ commit
  pub allowance : new.allowance ≡ old.allowance
  pub generation : new.vault.generation ≡ old.vault.generation

-- at `Ok`: all puts that come together were taken as one commit; if none comes, nothing has changed
abbrev pub TakesAny : {D : Type 0} → Core D → Core D → Commit → Type 0
TakesAny old new [] = (is_halted old ≡ false) × (new ≡ old)
TakesAny old new (first ∷ commit) = TakesPuts old new (first ∷ commit)

-- Why a commit of these puts is refused. A halted core returns `Halted`, and nothing else. Otherwise it is refused if its record does not fit, if the device
-- failed, or if memory was refused; and if there is no put in it, it is not refused.
abbrev pub RefusesPuts : {D : Type 0} → Core D → Commit → CoreError → Type 0
RefusesPuts c commit (Refused refusal) = ⊥
RefusesPuts c commit (Store Halted) = is_halted c ≡ true
RefusesPuts c commit (Store Full) = (is_halted c ≡ false) × (0 < length commit) × AreTooLong c commit
RefusesPuts c commit (Store Device) = (is_halted c ≡ false) × (0 < length commit)
RefusesPuts c commit (Store NoMemory) = (is_halted c ≡ false) × (0 < length commit)
RefusesPuts c commit (Store (Damaged side place)) = ⊥
RefusesPuts c commit (Store NotAStore) = ⊥
RefusesPuts c commit (Store Exists) = ⊥

-- why a call refuses these puts, and when it says that their records do not fit
pub record RefusesPutsAs {D T : Type 0} (c : Core D) (commit : Commit) (result : Result T CoreError) : Type 0 where
  pub refused : IfErr result (RefusesPuts c commit)
  pub full : TellsFullAll c commit result

-- What a call promises that tries these puts as one commit: they were taken, or why they are refused; an error leaves everything as it was, and when it halts. At each moment a
-- crash leaves the facts before the commit or those after it. The commit is in doubt if the call halted the core.
pub record TriesPuts {D : Type 0} (storage : Ghosts D) (old new : Core D) (commit : Commit) (result : Result ℕ CoreError) : Type 0 where
  pub takes : OnOk result (TakesAny old new commit)
  pub unchanged : OnErr result (IsUnchanged old new)
  pub refused : IfErr result (RefusesPuts old commit)
  pub full : is_halted old ≡ false → TellsFullAll old commit result
  pub doubt : AreInDoubt old new commit result
  pub moments : IsTrue storage.is_honest → is_halted old ≡ false → CrashLeaves storage old new commit
  pub halts : Halts storage old new result

-- the core goes on by these puts as one commit; by none, if none comes or they are refused
abbrev pub PutsGoOn : {D : Type 0} → Ghosts D → (old new : Core D) → Commit → Result ℕ CoreError → Type 0
PutsGoOn storage old new commit (Ok count) = GoesOn storage old new (in_one commit)
PutsGoOn storage old new commit (Err error) = GoesOn storage old new []

-- What a put of several promises: it tries as one commit just those that come together, which are the longest legal prefix of them, and returns their number.
pub record PutsAll {D : Type 0} (storage : Ghosts D) (old new : Core D) (puts : List Event) (result : Result ℕ CoreError) : Type 0 where
  pub count : ℕ
  pub together : is_halted old ≡ false → PutsTogether (graph old) (facts old) puts count
  pub told : IfOk result (λ answer. answer ≡ count)
  pub tries : TriesPuts storage old new (take count puts) result
  pub goes_on : PutsGoOn storage old new (take count puts) result
