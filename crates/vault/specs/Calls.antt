-- What the calls of a vault promise: why they return an error and why a vault halts, what a refusal leaves, and what is written.
use Rattle.std.specs.Prelude.{◌≡◌, ◌≢◌, ◌⊎◌, ◌↔◌, ◌≤◌, ◌<◌, ◌+◌, ◌*◌, ◌++◌, ◌∷◌, [], ℕ, Bool, List, length, replicate, true, false, IsTrue, Result, IfOk, OnOk, OnErr, IfErr, IsErrOf}
use Rattle.disk.specs.declared.side.Side.{Side}
use Rattle.disk.specs.declared.side.Side.TheVariants.{A, B}
use Rattle.disk.specs.File.{File, at_rest, overwritten}
use Rattle.disk.specs.declared.storage.Disk.{Ghosts}
use Rattle.disk.specs.Time.{MayLeaveNow, OtherStays}
use Rattle.disk.specs.Storage.{Errs, Leaves, ReportsAs}
use Rattle.terms.specs.Commits.{Commit}
use Rattle.terms.specs.Facts.{facts, environment}
use Rattle.graph.specs.Fits.{FitAfter}
use Rattle.graph.specs.Graph.{Graph}
use Rattle.graph.specs.Canonical.{canonical}
use Rattle.graph.specs.Reads.{Reads}
use Rattle.journal.specs.declared.journal.TheConstants.{LIMIT}
use Rattle.vault.specs.declared.append.TheConstants.{FIRST_GROUND, GROUND}
use Rattle.vault.specs.declared.vault.Vault.{Vault}
use Rattle.vault.specs.declared.error.VaultError.{VaultError}
use Rattle.vault.specs.declared.error.VaultError.TheVariants.{Device, NoMemory, Full, Halted, Exists}
use Rattle.vault.specs.Stands.{Stands, other_side}
use Rattle.vault.specs.Opened.{contents_of}
use Rattle.vault.specs.Groups.{records_of}
use Rattle.codec.specs.declared.image.Image.{Image}
use Rattle.codec.specs.Spelling.{SpellsImage, image_bytes}
use Rattle.codec.specs.Image.{Lists}
use Rattle.terms.specs.Sets.{Facts, with_facts}
use Rattle.terms.specs.declared.key.TheConstants.{MAX_COMPONENTS}
use Rattle.vault.specs.Store.{Holds, HasGates, IsLast, IsReady, IsSame, IsTooLong, StandsBeforeOrAfter, new_side, empty, nothing, OneHasBytes}

-- ---- calls of a vault

-- an error that `append` and `turn_by` may return
abbrev pub IsOfCall : VaultError → Type 0
IsOfCall error = (error ≡ Device) ⊎ (error ≡ NoMemory) ⊎ (error ≡ Full) ⊎ (error ≡ Halted)

-- When a call halts: exactly if a call of the disk returned an error. What it returns then, and what another refusal leaves.
pub record Halts {D T : Type 0} (storage : Ghosts D) (old new : Vault D) (result : Result T VaultError) : Type 0 where
  -- after the call the vault is halted exactly if it was before, or if a call of the disk returned an error
  pub halts : (new.halted ≡ true) ↔ ((old.halted ≡ true) ⊎ Errs storage old.disk new.disk)
  -- a halted vault returns `Halted`, and makes no call of the disk
  pub halted : IsErrOf result Halted ↔ (old.halted ≡ true)
  pub disk : ReportsAs storage Device NoMemory old.disk new.disk result
  -- if an error does not halt it, nothing changed
  pub same : OnErr result (new.halted ≡ old.halted → IsSame old new)
  pub causes : IfErr result IsOfCall

-- `Full` is returned for this cause only. If the cause is there, a working vault returns `Full`, or `NoMemory` if memory was refused first.
pub record IsFullWhere {T : Type 0} (halted : Bool) (cause : Type 0) (result : Result T VaultError) : Type 0 where
  pub why : IsErrOf result Full → cause
  pub told : halted ≡ false → cause → IsErrOf result Full ⊎ IsErrOf result NoMemory

-- ---- appends

-- What an append of a commit does to a store, on an honest disk. After `Ok` the store holds it, too. A crash at any moment of the call leaves the state before
-- the whole commit or the state after it; and if each file has a first byte, it leaves each file one.
pub record Adds {D T : Type 0} (storage : Ghosts D) (old new : Vault D) (g : Graph) (E X : Facts) (commit : Commit) (result : Result T VaultError) : Type 0 where
  pub added : FitAfter g X commit → OnOk result (Holds storage.files new g (with_facts E (environment commit)) (with_facts X (facts commit)))
  pub any_moment : FitAfter g X commit → Leaves storage old.disk new.disk (StandsBeforeOrAfter g E X commit)
  pub gates : HasGates (contents_of (storage.files old.disk)) → Leaves storage old.disk new.disk HasGates

-- How an append leaves the vault, on every disk: after `Ok` its journal ends after the records. The live side, the generation and the text stay.
pub record Appended {D T : Type 0} (old new : Vault D) (bytes : List ℕ) (result : Result T VaultError) : Type 0 where
  pub working : OnOk result ((old.halted ≡ false) × (new.halted ≡ false))
  pub moved : OnOk result (new.journal.end ≡ old.journal.end + length bytes)
  pub side : new.journal.side ≡ old.journal.side
  pub generation : new.generation ≡ old.generation
  pub text : new.text ≡ old.text

-- how many zeros an append may lay behind the closed gate at `end`: some that end within the limit, and only where that gate does not lie below `FIRST_GROUND`
abbrev pub LaysBehind : ℕ → ℕ → Type 0
LaysBehind end zeros = (zeros ≡ 0) ⊎ ((FIRST_GROUND ≤ end) × (end + 1 + zeros ≤ LIMIT))

-- zeros are not due behind records of `count` bytes: the gate that follows them lies below `FIRST_GROUND`, or zeros are known to lie up to `laid`, or the
-- records are too long for many to follow, or the limit is reached
abbrev pub AreNotDue : (end count laid : ℕ) → Type 0
AreNotDue end count laid = (end + count < FIRST_GROUND) ⊎ (end + count < laid) ⊎ (GROUND < count * 2) ⊎ (LIMIT ≤ end + count + 1)

-- What an append writes, on an honest disk: its records, a closed gate and zeros behind it, over the gate that ended the journal of the
-- live side. The other file stays as it was, whatever is returned; and if the vault is not halted, it is ready for the next call.
pub record WritesRecords {D T : Type 0} (files : D → Side → File) (old new : Vault D) (bytes : List ℕ) (result : Result T VaultError) : Type 0 where
  pub written : OnOk result ((zeros : ℕ) × LaysBehind new.journal.end zeros
      × (files new.disk old.journal.side ≡ at_rest (overwritten (files old.disk old.journal.side).content old.journal.end (bytes ++ 0 ∷ replicate zeros 0))))
  pub other : OtherStays old.journal.side (files old.disk) (files new.disk)
  pub ready : new.halted ≡ false → IsReady files new

-- What an append of a commit promises.
pub record AppendsAs {D T : Type 0} (storage : Ghosts D) (old new : Vault D) (commit : Commit) (result : Result T VaultError) : Type 0 where
  pub adds : IsTrue storage.is_honest → (g : Graph) (E X : Facts) → Holds storage.files old g E X → Adds storage old new g E X commit result
  pub written : IsTrue storage.is_honest → WritesRecords storage.files old new (records_of commit) result
  pub appended : Appended old new (records_of commit) result
  pub full : IsFullWhere old.halted (LIMIT ≤ old.journal.end + length (records_of commit)) result
  pub halting : Halts storage old new result

-- ---- making a store

-- What the vault of a new store is, on every disk.
pub record IsNew {D : Type 0} (text : List ℕ) (vault : Vault D) : Type 0 where
  pub working : vault.halted ≡ false
  pub generation : vault.generation ≡ 1
  pub side : vault.journal.side ≡ A
  pub end : vault.journal.end + 1 ≡ length (new_side 1 text (image_bytes empty))
  pub text_is : vault.text.items ≡ text

-- What a new store is, on an honest disk: its first side in A, without facts, and the closed gate of B; its vault holds nothing, and is
-- ready for its first call.
pub record IsCreated {D : Type 0} (files : D → Side → File) (text : List ℕ) (vault : Vault D) : Type 0 where
  pub holds : (g : Graph) → Reads text g → text ≡ canonical g → Holds files vault g nothing nothing
  pub a : files vault.disk A ≡ at_rest (new_side 1 text (image_bytes empty))
  pub b : files vault.disk B ≡ at_rest (0 ∷ [])
  pub ready : IsReady files vault

-- If the files are not both empty, on an honest disk: no store is made of them, both stay as they are, and a crash at any moment leaves what
-- one might have left before. `Exists` says that one is not empty.
pub record LeavesNonEmpty {D T : Type 0} (storage : Ghosts D) (old new : D) (result : Result T VaultError) : Type 0 where
  pub were_empty : OnOk result ((side : Side) → (storage.files old side).content ≡ [])
  pub exists : IsErrOf result Exists → OneHasBytes (storage.files old)
  pub kept : (some : Side) → (storage.files old some).content ≢ [] → (side : Side) → storage.files new side ≡ storage.files old side
  pub moments : (some : Side) → (storage.files old some).content ≢ [] → Leaves storage old new (MayLeaveNow (storage.files old))

-- Why making a store is refused. All memory of its own is asked for before the first call of the disk.
pub record RefusesToMake {D T : Type 0} (storage : Ghosts D) (old new : D) (result : Result T VaultError) : Type 0 where
  pub errors : IfErr result (λ error. (error ≡ Exists) ⊎ (error ≡ NoMemory) ⊎ (error ≡ Device))
  pub causes : ReportsAs storage Device NoMemory old new result
  pub grown_first : IsErrOf result NoMemory → storage.refusals new ≡ storage.refusals old → new ≡ old

-- ---- turnovers

-- the bytes spell an image of these facts, of which the environment put E
abbrev pub SpellsFacts : List ℕ → Facts → Facts → Type 0
SpellsFacts bytes E X = (image : Image) × SpellsImage MAX_COMPONENTS bytes image × Lists image E X

-- What a turnover with the bytes of an image does to a store, on an honest disk. If they spell what the store holds, it holds that after `Ok`; and if the other file has a first
-- byte, a crash at any moment of the call leaves it. If each file has a first byte, a crash leaves each file one.
pub record TurnsFor {D T : Type 0} (storage : Ghosts D) (old new : Vault D) (g : Graph) (E X : Facts) (image : List ℕ) (result : Result T VaultError) : Type 0 where
  pub turned : SpellsFacts image E X → OnOk result (Holds storage.files new g E X)
  pub any_moment : SpellsFacts image E X → (storage.files old.disk (other_side old.journal.side)).content ≢ [] → Leaves storage old.disk new.disk (λ contents. Stands contents g E X)
  pub gates : HasGates (contents_of (storage.files old.disk)) → Leaves storage old.disk new.disk HasGates

-- the same, whatever the store holds
abbrev pub TurnsStore : {D T : Type 0} → Ghosts D → Vault D → Vault D → List ℕ → Result T VaultError → Type 0
TurnsStore storage old new image result = (g : Graph) (E X : Facts) → Holds storage.files old g E X → TurnsFor storage old new g E X image result

-- How a turnover with the bytes of an image leaves the vault, on every disk: after `Ok` the other side is live, one generation greater, and its journal ends at the
-- last byte of the new side; after an error the side and the generation are those before. The text stays.
pub record TurnsOver {D : Type 0} (old new : Vault D) (image : List ℕ) (result : Result ℕ VaultError) : Type 0 where
  pub working : OnOk result ((old.halted ≡ false) × (new.halted ≡ false))
  pub side : IfOk result (λ generation. (generation ≡ old.generation + 1) × (new.generation ≡ generation) × (new.journal.side ≡ other_side old.journal.side))
  pub end : IfOk result (λ generation. new.journal.end + 1 ≡ length (new_side generation old.text.items image))
  pub stays : OnErr result ((new.generation ≡ old.generation) × (new.journal.side ≡ old.journal.side))
  pub text : new.text ≡ old.text

-- What a turnover writes, on an honest disk: the other side anew. The file that was live stays as it was, whatever is returned; and if
-- the vault is not halted, it is ready for the next call.
pub record WritesSide {D : Type 0} (files : D → Side → File) (old new : Vault D) (image : List ℕ) (result : Result ℕ VaultError) : Type 0 where
  pub written : IfOk result (λ generation. files new.disk (other_side old.journal.side) ≡ at_rest (new_side generation old.text.items image))
  pub live : files new.disk old.journal.side ≡ files old.disk old.journal.side
  pub ready : new.halted ≡ false → IsReady files new

-- Why a turnover is refused: also since it is of the greatest generation, or since the new side would be too long. `NoMemory` is the disk's.
pub record RefusesTurn {D T : Type 0} (storage : Ghosts D) (old new : Vault D) (image : List ℕ) (result : Result T VaultError) : Type 0 where
  pub last : old.halted ≡ false → IsLast old.generation → IsErrOf result Full
  pub full : IsFullWhere old.halted (IsLast old.generation ⊎ IsTooLong (old.generation + 1) old.text.items image) result
  pub no_memory : IsErrOf result NoMemory → storage.refusals new.disk ≢ storage.refusals old.disk
