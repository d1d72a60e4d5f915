-- What a creation returns, and what it leaves.
use Rattle.std.specs.Prelude.{◌≡◌, ◌≢◌, ◌⊎◌, ℕ, false, List, [], Result, Ok, Err, IsErrOf, OnOk, IsTrue}
use Rattle.disk.specs.Storage.{Leaves}
use Rattle.disk.specs.declared.storage.Disk.{Ghosts}
use Rattle.disk.specs.declared.side.Side.{Side}
use Rattle.disk.specs.declared.side.Side.TheVariants.{A, B}
use Rattle.disk.specs.Time.{MayLeaveNow}
use Rattle.terms.specs.Facts.{Fact}
use Rattle.graph.specs.Graph.{Graph as TheGraph}
use Rattle.graph.specs.Reads.{HasCause, Reads}
use Rattle.vault.specs.Opened.{contents_of}
use Rattle.vault.specs.Store.{HasGates, OneHasBytes}
use Rattle.vault.specs.declared.error.VaultError.TheVariants.{Device, NoMemory, Exists}
use Rattle.commit.specs.declared.creation.CreateError.{CreateError}
use Rattle.commit.specs.declared.creation.CreateError.TheVariants.{Graph, Store}
use Rattle.commit.specs.declared.creation.NotCreated.{NotCreated}
use Rattle.commit.specs.Core.{Core, graph, facts, environment}
use Rattle.commit.specs.Opened.{IsOpened}

-- A new store: the text reads as its graph, it has no facts, its core is as one that was just opened, and it has the first generation. On an honest
-- disk each file has its first byte.
pub record IsCreated {D : Type 0} (storage : Ghosts D) (text : List ℕ) (c : Core D) : Type 0 where
  pub reads : Reads text (graph c)
  pub facts : (fact : Fact) → facts c fact ≡ false
  pub environment : (fact : Fact) → environment c fact ≡ false
  pub opened : IsOpened c
  pub generation : c.vault.generation ≡ 1
  pub gates : IsTrue storage.is_honest → HasGates (contents_of (storage.files c.vault.disk))

-- why no store was made: the text has this fault, and the disk is as it was; or the text is a graph's, and a file is not empty, memory was refused, or
-- device failed
abbrev pub TellsCause : {D : Type 0} → List ℕ → D → D → CreateError → Type 0
TellsCause text old new (Graph fault) = HasCause text fault × (new ≡ old)
TellsCause text old new (Store error) = ((g : TheGraph) × Reads text g) × ((error ≡ Exists) ⊎ (error ≡ NoMemory) ⊎ (error ≡ Device))

abbrev pub TellsCreation : {D : Type 0} → List ℕ → D → NotCreated D → Type 0
TellsCreation text old refused = TellsCause text old refused.disk refused.error

-- the disk that a result gives back
abbrev pub disk_of : {D : Type 0} → Result (Core D) (NotCreated D) → D
disk_of (Ok core) = core.vault.disk
disk_of (Err refused) = refused.disk

-- the result, without the disk
abbrev pub answer_of : {D : Type 0} → Result (Core D) (NotCreated D) → Result (Core D) CreateError
answer_of (Ok core) = Ok core
answer_of (Err refused) = Err refused.error

-- If the files are not both empty, on an honest disk: no store is made of them, both stay as they are, and a crash at any moment leaves what one
-- might have left before. `Exists` says that one is not empty.
pub record LeavesOthers {D T : Type 0} (storage : Ghosts D) (old new : D) (result : Result T CreateError) : Type 0 where
  pub were_empty : OnOk result ((side : Side) → (storage.files old side).content ≡ [])
  pub exists : IsErrOf result (Store Exists) → OneHasBytes (storage.files old)
  pub kept : (some : Side) → (storage.files old some).content ≢ [] → (side : Side) → storage.files new side ≡ storage.files old side
  pub moments : (some : Side) → (storage.files old some).content ≢ [] → Leaves storage old new (MayLeaveNow (storage.files old))

-- if the error is that memory was refused, and the disk counted no refusal, the disk is as it was
abbrev pub KeepsDiskOutside : {D : Type 0} → Ghosts D → D → NotCreated D → Type 0
KeepsDiskOutside storage old refused = refused.error ≡ Store NoMemory → storage.refusals refused.disk ≡ storage.refusals old → refused.disk ≡ old
