-- What calls of a disk leave and report, over all words of a disk at once.
use Rattle.std.specs.Prelude.{◌≡◌, ℕ, List, length, Result, OnOk, OnErr}
use Rattle.disk.specs.declared.storage.Disk.{Ghosts}
use Rattle.disk.specs.declared.error.DiskError.{DiskError}
use Rattle.disk.specs.declared.side.Side.{Side}
use Rattle.disk.specs.File.{MayLeave, WriteLeaves, at_rest, overwritten, touching, write_touches}
use Rattle.disk.specs.Time.{Contents, MayLeaveNow, OtherStays, OtherMayBe, LeavesOnly, KeepsAll, AtOnce, HasCause, HasCauses, HasErred, CountsRefusal}

-- at each moment of these calls a crash leaves only what has P
abbrev pub Leaves : {D : Type 0} → Ghosts D → D → D → (Contents → Type 0) → Type 0
Leaves storage old new P = LeavesOnly storage.moment storage.left_at old new P

-- how a function reports the errors of the calls of a disk that it makes: as errors of the disk
pub record Reports {D T : Type 0} (storage : Ghosts D) (old new : D) (result : Result T DiskError) : Type 0 where
  pub cause : HasCause (storage.failures old) (storage.failures new) result
  pub refused : CountsRefusal (storage.refusals old) (storage.refusals new) result

-- as errors of its own
abbrev pub ReportsAs : {D T E : Type 0} → Ghosts D → E → E → D → D → Result T E → Type 0
ReportsAs storage failed no_memory old new result = HasCauses storage.failures storage.refusals failed no_memory old new result

-- a call of the disk returned an error between these two moments
abbrev pub Errs : {D : Type 0} → Ghosts D → D → D → Type 0
Errs storage old new = HasErred storage.failures storage.refusals old new

-- both files are as they were, and a crash at any moment of these calls leaves what one might have left before
pub record KeepsFiles {D : Type 0} (storage : Ghosts D) (old new : D) : Type 0 where
  pub same : (each : Side) → storage.files new each ≡ storage.files old each
  pub any_moment : Leaves storage old new (MayLeaveNow (storage.files old))

-- What a write that is synced leaves, on an honest disk.
pub record WritesSynced {D T E : Type 0} (storage : Ghosts D) (side : Side) (at : ℕ) (bytes : List ℕ) (old new : D) (result : Result T E) : Type 0 where
  pub ok : OnOk result (storage.files new side ≡ at_rest (overwritten (storage.files old side).content at bytes))
  pub other : OtherStays side (storage.files old) (storage.files new)
  -- A crash at any moment leaves of this file at most what the write may leave, and of the other file what it might have left before.
  pub touches : Leaves storage old new
      (λ contents. MayLeave (touching (write_touches (storage.files old side).durable at (length bytes)) (storage.files old side).durable) (contents side) × OtherMayBe side (storage.files old) contents)
  -- if everything of the file was on the disk, that is:
  pub any_moment : (synced : List ℕ) → storage.files old side ≡ at_rest synced
      → Leaves storage old new (λ contents. WriteLeaves synced at (length bytes) (contents side) × OtherMayBe side (storage.files old) contents)
  -- it takes effect at once: no part of it is sure to be on the disk before all of it is
  pub at_once : AtOnce storage.files storage.moment storage.left_at old new
  -- after an error a crash may leave everything that it might have left before, and so it may at each moment of the call
  pub err : OnErr result ((contents : Contents) → MayLeaveNow (storage.files old) contents → MayLeaveNow (storage.files new) contents)
  pub err_moments : OnErr result (KeepsAll storage.files storage.moment storage.left_at old new)
