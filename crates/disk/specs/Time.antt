-- The two files of a disk over time: what a crash now, or at an earlier moment, may leave of both.
use Rattle.std.specs.Prelude.{◌≡◌, ◌≢◌, ◌⊎◌, ◌↔◌, ◌+◌, ◌≤◌, ◌<◌, ℕ, List, Result, Ok, Err, IsErrOf}
use Rattle.disk.specs.declared.side.Side.{Side}
use Rattle.disk.specs.declared.error.DiskError.{DiskError}
use Rattle.disk.specs.declared.error.DiskError.TheVariants.{Device, NoMemory}
use Rattle.disk.specs.File.{File, MayLeave}

-- the bytes of both files
abbrev pub Contents : Type 0
Contents = Side → List ℕ

-- a crash now may leave these bytes
abbrev pub MayLeaveNow : (Side → File) → Contents → Type 0
MayLeaveNow files contents = (side : Side) → MayLeave (files side).durable (contents side)

-- the other file is as it was
abbrev pub OtherStays : Side → (Side → File) → (Side → File) → Type 0
OtherStays side old new = (other : Side) → other ≢ side → new other ≡ old other

-- these contents of the other file are contents that a crash might have left of it
abbrev pub OtherMayBe : Side → (Side → File) → Contents → Type 0
OtherMayBe side files contents = (other : Side) → other ≢ side → MayLeave (files other).durable (contents other)

-- Time goes on by one call: by at most one moment, and what a crash at an earlier moment may have left stays what it was.
pub record Elapses (before now : ℕ) (past at : ℕ → Contents → Type 0) : Type 0 where
  pub later : before ≤ now
  pub by_one : now ≤ before + 1
  pub stays : (t : ℕ) (contents : Contents) → t ≤ before → at t contents ↔ past t contents

-- At each moment since `begun` a crash may have left only what has P; and what a crash at an earlier moment may have left stays as it was.
pub record LeavesSince {D : Type 0} (moment : D → ℕ) (left_at : D → ℕ → Contents → Type 0) (begun : ℕ) (left : ℕ → Contents → Type 0) (new : D) (P : Contents → Type 0) : Type 0 where
  pub later : begun ≤ moment new
  pub each : (t : ℕ) (contents : Contents) → begun ≤ t → t ≤ moment new → left_at new t contents → P contents
  pub stays : (t : ℕ) (contents : Contents) → t ≤ begun → left_at new t contents ↔ left t contents

-- the same for the moments since `old`
abbrev pub LeavesOnly : {D : Type 0} → (D → ℕ) → (D → ℕ → Contents → Type 0) → D → D → (Contents → Type 0) → Type 0
LeavesOnly moment left_at old new P = LeavesSince moment left_at (moment old) (left_at old) new P

-- At each moment of these calls a crash may leave everything that it might have left before them.
abbrev pub KeepsAll : {D : Type 0} → (D → Side → File) → (D → ℕ) → (D → ℕ → Contents → Type 0) → D → D → Type 0
KeepsAll files moment left_at old new = (k : ℕ) (contents : Contents) → moment old ≤ k → k ≤ moment new → MayLeaveNow (files old) contents → left_at new k contents

-- Up to some moment `Before` holds, and from then on `After`: for each moment from first to last, `Before` holds at all moments up
-- to it, or `After` holds at all moments from it on.
abbrev pub Switches : ℕ → ℕ → (ℕ → Type 0) → (ℕ → Type 0) → Type 0
Switches first last Before After = (t : ℕ) → first ≤ t → t ≤ last → ((k : ℕ) → first ≤ k → k ≤ t → Before k) ⊎ ((k : ℕ) → t ≤ k → k ≤ last → After k)

-- These calls take effect at once: up to some moment a crash may leave everything that it might have left before them, and from then
-- on only what it may leave after them.
abbrev pub AtOnce : {D : Type 0} → (D → Side → File) → (D → ℕ) → (D → ℕ → Contents → Type 0) → D → D → Type 0
AtOnce files moment left_at old new =
    Switches (moment old) (moment new) (λ k. (contents : Contents) → MayLeaveNow (files old) contents → left_at new k contents) (λ k. (contents : Contents) → left_at new k contents → MayLeaveNow (files new) contents)

-- the call returns `Device` exactly when the count of failures grew
pub record HasCause {T : Type 0} (before now : ℕ) (result : Result T DiskError) : Type 0 where
  pub later : before ≤ now
  pub device : IsErrOf result Device → before < now
  pub told : before < now → IsErrOf result Device

-- The number of refusals changes exactly when the call returns `NoMemory`. A disk may keep the number in a machine word, which wraps
-- around; so it is only said that the number changes.
abbrev pub CountsRefusal : {T : Type 0} → ℕ → ℕ → Result T DiskError → Type 0
CountsRefusal before now (Err NoMemory) = now ≢ before
CountsRefusal before now (Err Device) = now ≡ before
CountsRefusal before now (Ok _) = now ≡ before

-- How a function that calls a disk reports the errors of those calls: it returns `failed` exactly when the device failed, and
-- `no_memory` whenever the number of refusals changed. And the count of failures never falls.
pub record HasCauses {D T E : Type 0} (failures refusals : D → ℕ) (failed no_memory : E) (old new : D) (result : Result T E) : Type 0 where
  pub device : IsErrOf result failed ↔ (failures old < failures new)
  pub refused : refusals new ≢ refusals old → IsErrOf result no_memory
  pub later : failures old ≤ failures new

-- A call of the disk returned an error between these two moments: the count of failures grew, or the number of refusals changed.
-- Two refusals may bring that number back to what it was; but if the calls stop at the first error, this is exact.
abbrev pub HasErred : {D : Type 0} → (D → ℕ) → (D → ℕ) → D → D → Type 0
HasErred failures refusals old new = (failures old < failures new) ⊎ (refusals new ≢ refusals old)
