-- A file of a disk: what a read gives, and what a crash may leave of it.
use Rattle.std.specs.Prelude.{◌≡◌, ◌≤◌, ◌<◌, ◌+◌, ◌^◌, ◌||◌, ◌&&◌, ℕ, Bool, true, false, List, ◌++◌, length, take, drop, All, slice_get, nat_lt, nat_le, Result, Ok, Err}
use Rattle.disk.specs.declared.error.DiskError.{DiskError}
use Rattle.disk.specs.declared.error.DiskError.TheVariants.{Device, NoMemory}

-- the bytes that the last successful sync made durable, and the positions that were written or cut since
pub record Durable : Type 0 where
  pub synced : List ℕ
  pub touched : ℕ → Bool

-- what a read gives, and what is durable
pub record File : Type 0 where
  pub content : List ℕ
  pub durable : Durable

-- `new` has at each untouched position what `old` has there; and it is as long, if nothing from the end of `old` on is touched
pub record Agrees (touched : ℕ → Bool) (old new : List ℕ) : Type 0 where
  pub elsewhere : (at : ℕ) → touched at ≡ false → slice_get new at ≡ slice_get old at
  pub length_stays : ((at : ℕ) → length old ≤ at → touched at ≡ false) → length new ≡ length old

abbrev pub IsByte : ℕ → Type 0
IsByte number = number < 2 ^ 8

abbrev pub AreBytes : List ℕ → Type 0
AreBytes numbers = All IsByte numbers

-- a crash may leave any bytes that agree with the synced ones at every position that is not touched
pub record MayLeave (durable : Durable) (bytes : List ℕ) : Type 0 where
  pub are_bytes : AreBytes bytes
  pub agrees : Agrees durable.touched durable.synced bytes

-- all of these bytes are on the disk, and nothing is touched
abbrev pub settled : List ℕ → Durable
settled bytes = record { synced = bytes; touched = λ _. false }

-- reads give these bytes, and all of them are on the disk
abbrev pub at_rest : List ℕ → File
at_rest bytes = record { content = bytes; durable = settled bytes }

-- the durable state with these positions touched too
abbrev pub touching : (ℕ → Bool) → Durable → Durable
touching touches durable = record { synced = durable.synced; touched = λ at. durable.touched at || touches at }

-- a write of `count` bytes touches its range, and if it reaches past the synced end, everything from that end on
abbrev pub write_touches : Durable → ℕ → ℕ → ℕ → Bool
write_touches durable from count at =
    (nat_le from at && nat_lt at (from + count)) || (nat_lt (length durable.synced) (from + count) && nat_le (length durable.synced) at)

-- a cut touches everything from the new end on
abbrev pub cut_touches : ℕ → ℕ → Bool
cut_touches end at = nat_le end at

-- the bytes are written at this offset, over what was there
abbrev pub overwritten : List ℕ → ℕ → List ℕ → List ℕ
overwritten old from bytes = take from old ++ bytes ++ drop (from + length bytes) old

-- after a write that succeeded
abbrev pub written : ℕ → List ℕ → File → File
written from bytes file = record { content = overwritten file.content from bytes; durable = touching (write_touches file.durable from (length bytes)) file.durable }

-- after a cut that succeeded
abbrev pub cut : ℕ → File → File
cut end file = record { content = take end file.content; durable = touching (cut_touches end) file.durable }

-- after a write or a cut that failed: it touched these positions, and it is unspecified what reads give there
pub record Fails (touches : ℕ → Bool) (old new : File) : Type 0 where
  pub durable : new.durable ≡ touching touches old.durable
  pub content : Agrees touches old.content new.content

-- the same for some of these positions
pub record FailsWithin (touches : ℕ → Bool) (old new : File) : Type 0 where
  pub touched : ℕ → Bool
  pub within : (at : ℕ) → touched at ≡ true → touches at ≡ true
  pub fails : Fails touched old new

-- what a write or a cut does to its file, by its result: if the device failed, it touched all positions that it would have touched;
-- if memory was refused, at most those
abbrev pub Changes : {T : Type 0} → (File → File) → (ℕ → Bool) → Result T DiskError → File → File → Type 0
Changes done touches (Ok _) old new = new ≡ done old
Changes done touches (Err Device) old new = Fails touches old new
Changes done touches (Err NoMemory) old new = FailsWithin touches old new

-- what a write of these bytes at a position does
abbrev pub Writes : {T : Type 0} → ℕ → List ℕ → Result T DiskError → File → File → Type 0
Writes at bytes result old new = Changes (written at bytes) (write_touches old.durable at (length bytes)) result old new

-- what a cut to so many bytes does
abbrev pub Cuts : {T : Type 0} → ℕ → Result T DiskError → File → File → Type 0
Cuts count result old new = Changes (cut count) (cut_touches count) result old new

-- what a sync does to its file, by its result: a sync that fails clears nothing
abbrev pub Syncs : {T : Type 0} → Result T DiskError → File → File → Type 0
Syncs (Ok _) old new = new ≡ at_rest old.content
Syncs (Err _) old new = new ≡ old

-- what a write of `count` bytes may leave of synced bytes: the same in front of its range, and if the range ends within them, the same behind it
pub record WriteLeaves (synced : List ℕ) (from count : ℕ) (bytes : List ℕ) : Type 0 where
  pub front : take from bytes ≡ take from synced
  pub reaches : from ≤ length bytes
  pub length_stays : from + count ≤ length synced → length bytes ≡ length synced
  pub back : from + count ≤ length synced → drop (from + count) bytes ≡ drop (from + count) synced
