-- Laws of the disk's definition, stated in terms of their own: what a crash may leave after another crash, after a write,
-- after a cut, after several of both and after a failure; and the law that it may leave what reads give.
use Rattle.std.specs.Prelude.{◌≡◌, ◌⊎◌, ◌↔◌, ◌≤◌, ◌<◌, ◌+◌, ℕ, Bool, false, List, [], ◌∷◌, length, take, drop, All, slice_get, Result}
use Rattle.disk.specs.declared.error.DiskError.{DiskError}
use Rattle.disk.specs.File.{Durable, File, MayLeave, AreBytes, Fails, Syncs, WriteLeaves, settled, touching, write_touches, cut_touches, written, cut}
use Rattle.disk.specs.Crash.{crashed}

-- ---- crashes one after another

-- crashes with nothing between them may leave these bytes, one after another
abbrev pub Crashes : File → List (List ℕ) → Type 0
Crashes file [] = Unit {0}
Crashes file (bytes ∷ later) = MayLeave file.durable bytes × Crashes (crashed bytes file) later

-- a crash makes nothing durable: each crash may leave exactly what the first may leave
abbrev pub CrashesAlike : Type 0
CrashesAlike = (file : File) (left : List (List ℕ)) → Crashes file left ↔ All (MayLeave file.durable) left

-- if nothing is touched, each crash leaves what reads give
abbrev pub UntouchedStays : Type 0
UntouchedStays = (file : File) → ((at : ℕ) → file.durable.touched at ≡ false) → MayLeave file.durable file.content
    → (left : List (List ℕ)) → Crashes file left ↔ All (λ bytes. bytes ≡ file.content) left

-- ---- one write or one cut, when everything was on the disk before

-- the durable state after a write of `count` bytes
abbrev pub after_write : List ℕ → ℕ → ℕ → Durable
after_write synced from count = touching (write_touches (settled synced) from count) (settled synced)

-- the durable state after a cut
abbrev pub after_cut : List ℕ → ℕ → Durable
after_cut synced end = touching (cut_touches end) (settled synced)

-- as many bytes as before: any bytes from one position up to another, and the old bytes everywhere else
pub record DiffersWithin (from end : ℕ) (old new : List ℕ) : Type 0 where
  pub are_bytes : AreBytes new
  pub same_length : length new ≡ length old
  pub front : take from new ≡ take from old
  pub behind : drop end new ≡ drop end old

-- the first `count` old bytes, and after them any bytes, in any number
pub record BeginsAs (count : ℕ) (old new : List ℕ) : Type 0 where
  pub are_bytes : AreBytes new
  pub reaches : count ≤ length new
  pub front : take count new ≡ take count old

-- a write within the synced bytes may leave any bytes in its range, and nothing else changes
abbrev pub WriteWithin : Type 0
WriteWithin = (synced : List ℕ) (from count : ℕ) → from + count ≤ length synced
    → (bytes : List ℕ) → MayLeave (after_write synced from count) bytes ↔ DiffersWithin from (from + count) synced bytes

-- a write that reaches past the synced end may leave any bytes from where it begins, fewer or more than were written
abbrev pub WritePast : Type 0
WritePast = (synced : List ℕ) (from count : ℕ) → from ≤ length synced → length synced < from + count
    → (bytes : List ℕ) → MayLeave (after_write synced from count) bytes ↔ BeginsAs from synced bytes

-- in both cases a write may leave exactly the bytes that satisfy `WriteLeaves`
abbrev pub WriteLeavesExactly : Type 0
WriteLeavesExactly = (synced : List ℕ) (from count : ℕ) → from ≤ length synced
    → (bytes : List ℕ) → MayLeave (after_write synced from count) bytes ↔ (AreBytes bytes × WriteLeaves synced from count bytes)

-- a cut may leave any bytes from the new end on, the old ones among them
abbrev pub CutLeaves : Type 0
CutLeaves = (synced : List ℕ) (end : ℕ) → end ≤ length synced
    → (bytes : List ℕ) → MayLeave (after_cut synced end) bytes ↔ BeginsAs end synced bytes

-- 7, 8 and 9 are on the disk, and one byte is written at 1: a crash leaves a 7, any byte and a 9
abbrev pub WriteExample : Type 0
WriteExample = let durable = after_write (7 ∷ 8 ∷ 9 ∷ []) 1 1 in
    MayLeave durable (7 ∷ 0 ∷ 9 ∷ []) × (MayLeave durable (0 ∷ 8 ∷ 9 ∷ []) → ⊥) × (MayLeave durable (7 ∷ 8 ∷ []) → ⊥)

-- the same three bytes are cut to the first: a crash leaves a 7 and any bytes
abbrev pub CutExample : Type 0
CutExample = let durable = after_cut (7 ∷ 8 ∷ 9 ∷ []) 1 in
    MayLeave durable (7 ∷ []) × MayLeave durable (7 ∷ 8 ∷ 9 ∷ []) × MayLeave durable (7 ∷ 1 ∷ []) × (MayLeave durable [] → ⊥)

-- ---- several of them, with no sync between

-- what may be left after one of two writes or cuts may be left after both
abbrev pub TouchesAddUp : Type 0
TouchesAddUp = (durable : Durable) (first second : ℕ → Bool) (bytes : List ℕ)
    → MayLeave (touching first durable) bytes ⊎ MayLeave (touching second durable) bytes → MayLeave (touching second (touching first durable)) bytes

-- at this position these bytes have what some other bytes have there, which are as many and which a crash may leave
abbrev pub HasFrom : Durable → List ℕ → ℕ → Type 0
HasFrom durable bytes at = (left : List ℕ) × MayLeave durable left × (length left ≡ length bytes) × (slice_get bytes at ≡ slice_get left at)

-- among contents as long as the synced bytes, both together may leave exactly the mixtures: at each position what either may leave
abbrev pub MixturesLeft : Type 0
MixturesLeft = (durable : Durable) (first second : ℕ → Bool) (bytes : List ℕ) → AreBytes durable.synced → length bytes ≡ length durable.synced
    → MayLeave (touching second (touching first durable)) bytes
    ↔ ((at : ℕ) → at < length bytes → HasFrom (touching first durable) bytes at ⊎ HasFrom (touching second durable) bytes at)

-- ---- a write or a cut that failed

-- a write or a cut that failed takes nothing back: what a crash might leave before it, a crash may leave after it
abbrev pub FailureTakesNothingBack : Type 0
FailureTakesNothingBack = (touches : ℕ → Bool) (old new : File) → Fails touches old new → (bytes : List ℕ) → MayLeave old.durable bytes → MayLeave new.durable bytes

-- a write that failed may leave exactly what a write that succeeds may leave
abbrev pub FailedWriteLeaves : Type 0
FailedWriteLeaves = (old new : File) (from : ℕ) (bytes : List ℕ) → Fails (write_touches old.durable from (length bytes)) old new
    → (left : List ℕ) → MayLeave new.durable left ↔ MayLeave (written from bytes old).durable left

-- and the same holds for a cut that failed
abbrev pub FailedCutLeaves : Type 0
FailedCutLeaves = (old new : File) (end : ℕ) → Fails (cut_touches end) old new
    → (left : List ℕ) → MayLeave new.durable left ↔ MayLeave (cut end old).durable left

-- ---- what reads give

-- a crash may leave what reads give
abbrev pub ReadsLeft : File → Type 0
ReadsLeft file = MayLeave file.durable file.content

-- this stays so after a write of bytes
abbrev pub WriteKeepsReads : Type 0
WriteKeepsReads = (file : File) (from : ℕ) (bytes : List ℕ) → from ≤ length file.content → AreBytes bytes → ReadsLeft file → ReadsLeft (written from bytes file)

-- it stays so after a cut
abbrev pub CutKeepsReads : Type 0
CutKeepsReads = (file : File) (end : ℕ) → ReadsLeft file → ReadsLeft (cut end file)

-- it stays so after a write or a cut that failed, if what reads give are bytes
abbrev pub FailureKeepsReads : Type 0
FailureKeepsReads = (touches : ℕ → Bool) (old new : File) → Fails touches old new → AreBytes new.content → ReadsLeft old → ReadsLeft new

-- and it stays so after a sync, whatever it returned
abbrev pub SyncKeepsReads : Type 0
SyncKeepsReads = (result : Result (Unit {0}) DiskError) (old new : File) → Syncs result old new → ReadsLeft old → ReadsLeft new
