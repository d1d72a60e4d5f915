-- What a call with a batch promises: several ends of instances that are committed together.
use Rattle.std.specs.Prelude.{◌≡◌, ◌≤◌, ◌+◌, ⊤, ℕ, List, Result, Ok, Err, IfErr}
use Rattle.disk.specs.declared.storage.Disk.{Ghosts}
use Rattle.terms.specs.declared.name.Inst.{Inst}
use Rattle.terms.specs.declared.event.Event.{Event}
use Rattle.terms.specs.Sets.{Facts}
use Rattle.graph.specs.Fits.{HasNoFault}
use Rattle.graph.specs.Graph.{Graph}
use Rattle.journal.specs.declared.journal.TheConstants.{LIMIT}
use Rattle.machine.specs.declared.group.Ended.{Ended}
use Rattle.machine.specs.Group.{AreRunning, EndsTogether, cut}
use Rattle.machine.specs.Machine.{RefusesEnd}
use Rattle.vault.specs.declared.error.VaultError.TheVariants as vault
use Rattle.commit.specs.declared.error.CoreError.{CoreError}
use Rattle.commit.specs.declared.error.CoreError.TheVariants.{Refused, Store}
use Rattle.commit.specs.Batch.{Batch, EndsAll, ends_said}
use Rattle.commit.specs.Calls.{commit_length}
use Rattle.hub.specs.declared.error.BatchError.{BatchError}
use Rattle.hub.specs.declared.error.BatchError.TheVariants as batch_error
use Rattle.hub.specs.Kept.{Kept}
use Rattle.hub.specs.Opening.{end_behind, facts_behind}
use Rattle.hub.specs.Replies.{Adds}
use Rattle.passes.specs.Known.{Known}
use Rattle.passes.specs.Opening.{Opening}

-- One of the two holds: of the batch that comes back, or of what the core returns.
abbrev pub OnBatch : Result Ended BatchError → (Batch → Type 0) → (Result Ended CoreError → Type 0) → Type 0
OnBatch (Ok ended) foreign answers = answers (Ok ended)
OnBatch (Err (batch_error.Refused error)) foreign answers = answers (Err error)
OnBatch (Err (batch_error.Foreign back)) foreign answers = foreign back

-- The batch comes back whole, since an instance of it does not run here, or is in it twice; nothing has changed.
pub record IsForeignBatch {D : Type 0} (old new : Kept D) (batch back : Batch) : Type 0 where
  pub back_is : back ≡ batch
  pub not_running : AreRunning old.core.machine batch.tasks → ⊥
  pub same : new ≡ old

-- The core's call is made, with instances that run, none of them twice.
pub record AreMade {D : Type 0} (old : Kept D) (tasks : List Inst) (does : Type 0) : Type 0 where
  pub running : AreRunning old.core.machine tasks
  pub call : does

-- The core's call with a batch is made and ends as it says; or the batch comes back, and nothing has changed.
abbrev pub FinishesAll : {D : Type 0} → Ghosts D → Kept D → Kept D → Batch → Result Ended BatchError → Type 0
FinishesAll storage old new batch result =
    OnBatch result (IsForeignBatch old new batch) (λ answer. AreMade old batch.tasks (EndsAll storage old.core new.core batch.tasks (ends_said batch) answer))

-- the batch comes back, or the core's call is refused for one of these causes
abbrev pub RefusesBatch : Batch → (CoreError → Type 0) → Result Ended BatchError → Type 0
RefusesBatch batch why result = OnBatch result (λ back. back ≡ batch) (λ answer. IfErr answer why)

-- what comes of these ends, as far as the answer says they come together, was added after all that was seen before, and is the pass's own
pub record AddsTogether (opening : Opening) (ends : List Event) (old new : Known) (ended : Ended) : Type 0 where
  pub adds : Adds (cut ended ends) old new
  pub together : EndsTogether opening.graph (facts_behind opening adds.before) ends ended

-- These ends come together so in a state with these facts, and the record of what comes has no room, or it has, in a journal that ends here.
pub record HaveNoRoom (g : Graph) (X : Facts) (end : ℕ) (ends : List Event) : Type 0 where
  pub ended : Ended
  pub together : EndsTogether g X ends ended
  pub too_long : LIMIT ≤ end + commit_length (cut ended ends)

pub record HaveRoom (g : Graph) (X : Facts) (end : ℕ) (ends : List Event) : Type 0 where
  pub ended : Ended
  pub together : EndsTogether g X ends ended
  pub fits : LIMIT ≤ end + commit_length (cut ended ends) → ⊥

-- Why ends are refused in the state that a pass knows: the store has a fault; their record does not fit; it fits, and the device failed; or there is no
-- fault, and memory was refused. No pass can know that the core is halted.
abbrev pub RefusesTogether : Opening → Known → List Event → CoreError → Type 0
RefusesTogether opening known ends (Refused refusal) = RefusesEnd (facts_behind opening known.seen) refusal
RefusesTogether opening known ends (Store vault.Halted) = ⊤
RefusesTogether opening known ends (Store vault.Full) = HaveNoRoom opening.graph (facts_behind opening known.seen) (end_behind opening known.seen) ends
RefusesTogether opening known ends (Store vault.Device) = HaveRoom opening.graph (facts_behind opening known.seen) (end_behind opening known.seen) ends
RefusesTogether opening known ends (Store vault.NoMemory) = HasNoFault (facts_behind opening known.seen)
RefusesTogether opening known ends (Store (vault.Damaged side place)) = ⊥
RefusesTogether opening known ends (Store vault.NotAStore) = ⊥
RefusesTogether opening known ends (Store vault.Exists) = ⊥
