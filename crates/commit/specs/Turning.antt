-- What a turnover of a core promises.
use Rattle.disk.specs.Storage.{Leaves}
use Rattle.disk.specs.declared.storage.Disk.{Ghosts}
use Rattle.std.specs.Prelude.{◌≡◌, ◌≢◌, ◌⊎◌, ◌+◌, ℕ, true, false, [], length, Result, IsErrOf, IfOk, IfErr, OnErr, IsTrue}
use Rattle.disk.specs.declared.side.Side.{Side}
use Rattle.disk.specs.File.{File, at_rest}
use Rattle.codec.specs.declared.image.Image.{Image}
use Rattle.codec.specs.Image.{IsListed, Lists}
use Rattle.codec.specs.Spelling.{image_bytes}
use Rattle.graph.specs.Canonical.{canonical}
use Rattle.vault.specs.declared.error.VaultError.TheVariants.{Device, NoMemory, Damaged, Full, NotAStore, Halted, Exists}
use Rattle.vault.specs.Opened.{contents_of}
use Rattle.vault.specs.Stands.{Stands, other_side}
use Rattle.vault.specs.Store.{HasGates, IsLast, IsTooLong, new_side}
use Rattle.commit.specs.declared.error.CoreError.{CoreError}
use Rattle.commit.specs.declared.error.CoreError.TheVariants.{Refused, Store}
use Rattle.commit.specs.Calls.{Halts, IsUnchanged}
use Rattle.commit.specs.Core.{Core, graph, facts, environment, is_halted}

-- the other side is live, of this generation, which is one greater; in memory nothing has changed
pub record Turns {D : Type 0} (old new : Core D) (generation : ℕ) : Type 0 where
  pub greater : generation ≡ old.vault.generation + 1
  pub live : (new.vault.generation ≡ generation) × (new.vault.journal.side ≡ other_side old.vault.journal.side)
  pub working : (is_halted old ≡ false) × (is_halted new ≡ false)
  pub machine : new.machine ≡ old.machine
  pub allowance : new.allowance ≡ old.allowance
  pub latest : new.latest ≡ old.latest

-- an image of all that the core has
abbrev pub IsImageOf : {D : Type 0} → Core D → Image → Type 0
IsImageOf c image = IsListed image × Lists image (environment c) (facts c)

-- The journal ends at the last byte of the new side: one with an image of all that the core has, and no record.
abbrev pub EndsAnew : {D : Type 0} → Core D → Core D → ℕ → Type 0
EndsAnew old new generation = (image : Image) × IsImageOf old image × (new.vault.journal.end + 1 ≡ length (new_side generation old.vault.text.items (image_bytes image)))

-- On an honest disk: after `Ok` the other file is the new side, with an image of all that the core has and no record.
abbrev pub WritesAnew : {D : Type 0} → (D → Side → File) → Core D → Core D → ℕ → Type 0
WritesAnew files old new generation = (image : Image) × IsImageOf old image × (files new.vault.disk (other_side old.vault.journal.side) ≡ at_rest (new_side generation (canonical (graph old)) (image_bytes image)))

-- the closed gate after this image would not lie below the limit
abbrev pub IsTooLongWith : {D : Type 0} → Core D → Image → Type 0
IsTooLongWith c image = IsTooLong (c.vault.generation + 1) c.vault.text.items (image_bytes image)

-- Why it is refused: the core is halted; it is of the greatest generation, or the new side would be too long; the device failed; or memory was refused.
abbrev pub RefusesTurn : {D : Type 0} → Core D → CoreError → Type 0
RefusesTurn c (Refused refusal) = ⊥
RefusesTurn c (Store Halted) = is_halted c ≡ true
RefusesTurn c (Store Full) = (is_halted c ≡ false) × (IsLast c.vault.generation ⊎ ((image : Image) × IsImageOf c image × IsTooLongWith c image))
RefusesTurn c (Store Device) = is_halted c ≡ false
RefusesTurn c (Store NoMemory) = is_halted c ≡ false
RefusesTurn c (Store (Damaged side place)) = ⊥
RefusesTurn c (Store NotAStore) = ⊥
RefusesTurn c (Store Exists) = ⊥

-- A core that is not halted returns `Full` if it is of the greatest generation, or if each image of what it has is too long; or `NoMemory` if memory was
-- refused first.
abbrev pub TellsFullTurn : {D T : Type 0} → Core D → Result T CoreError → Type 0
TellsFullTurn c result =
    is_halted c ≡ false → IsLast c.vault.generation ⊎ ((image : Image) → IsImageOf c image → IsTooLongWith c image) → IsErrOf result (Store Full) ⊎ IsErrOf result (Store NoMemory)

-- What a crash leaves at any moment of a turnover: the facts of the core, if the other file has a first byte. If each file has one, each keeps one.
pub record LeavesWhileTurning {D : Type 0} (storage : Ghosts D) (old new : Core D) : Type 0 where
  pub facts : (storage.files old.vault.disk (other_side old.vault.journal.side)).content ≢ [] → Leaves storage old.vault.disk new.vault.disk (λ contents. Stands contents (graph old) (environment old) (facts old))
  pub gates : HasGates (contents_of (storage.files old.vault.disk)) → Leaves storage old.vault.disk new.vault.disk HasGates

-- What a turnover promises. On an honest disk the file that was live stays as it was, whatever is returned.
pub record TurnsAs {D : Type 0} (storage : Ghosts D) (old new : Core D) (result : Result ℕ CoreError) : Type 0 where
  pub ok : IfOk result (Turns old new)
  pub ends : IfOk result (EndsAnew old new)
  pub written : IsTrue storage.is_honest → IfOk result (WritesAnew storage.files old new)
  pub live : IsTrue storage.is_honest → storage.files new.vault.disk old.vault.journal.side ≡ storage.files old.vault.disk old.vault.journal.side
  pub err : OnErr result (IsUnchanged old new)
  pub refused : IfErr result (RefusesTurn old)
  pub full : TellsFullTurn old result
  pub halts : Halts storage old new result
  pub doubt : new.in_doubt ≡ old.in_doubt
  pub moments : IsTrue storage.is_honest → is_halted old ≡ false → LeavesWhileTurning storage old new
