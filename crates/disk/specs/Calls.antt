-- What a record of calls says of the two files: what is durable now, and what a crash at a moment may have left.
use Rattle.std.specs.Prelude.{◌≡◌, ◌↔◌, ℕ, List, [], ◌∷◌, ◌++◌, length, take, if◌then◌else◌, count_by, true}
use Rattle.std.proofs.Common.{sym, subst, arith}
use Rattle.std.proofs.lemmas.List.{take_all}
use Rattle.disk.specs.declared.side.Side.{Side}
use Rattle.disk.specs.declared.error.DiskError.{DiskError}
use Rattle.disk.specs.declared.error.DiskError.TheVariants.{Device, NoMemory}
use Rattle.disk.specs.declared.record.Call.{Call}
use Rattle.disk.specs.declared.record.Change.{Change}
use Rattle.disk.specs.declared.record.Change.TheVariants.{Nothing, Write, Cut, Sync}
use Rattle.disk.specs.Side.{is_side, pick, ChangesSide}
use Rattle.disk.specs.File.{Durable, File, MayLeave, settled, touching, write_touches, cut_touches, overwritten}
use Rattle.disk.specs.Time.{Contents}

-- what a change does to the durable state of its file
abbrev pub changed : Change → Durable → Durable
changed Nothing durable = durable
changed (Write at count) durable = touching (write_touches durable at count) durable
changed (Cut count) durable = touching (cut_touches count) durable
changed (Sync content) durable = settled content.items

-- the durable state of a file after these calls; only the calls on this side count
abbrev pub durable_after : Side → List Call → Durable → Durable
durable_after side [] durable = durable
durable_after side (call ∷ calls) durable = durable_after side calls (if is_side call.side side then changed call.change durable else durable)

-- the same for a new disk, whose files are empty
abbrev pub durable_of : List Call → Side → Durable
durable_of calls side = durable_after side calls (settled [])

-- the file whose reads give these bytes, after these calls
abbrev pub file_after : List ℕ → List Call → Side → File
file_after content calls side = record { content = content; durable = durable_of calls side }

-- the files whose reads give these bytes, after these calls
abbrev pub files_after : List ℕ → List ℕ → List Call → Side → File
files_after a b calls side = file_after (pick a b side) calls side

-- bytes are written over what one side has, from a position on
abbrev pub OverwritesSide : Side → ℕ → List ℕ → (Side → List ℕ) → (Side → List ℕ) → Type 0
OverwritesSide side at bytes old new = ChangesSide side (λ held. overwritten held at bytes) old new

-- the call that failed to make this change on this side
abbrev pub failed_call : Side → Change → Call
failed_call side change = record { side = side; change = change; failed = true }

-- a call that was begun and ended with an error: the device failed and the call is recorded, or the record could not grow
abbrev pub Kept : DiskError → Call → List Call → List Call → Type 0
Kept Device call old new = new ≡ old ++ call ∷ []
Kept NoMemory call old new = new ≡ old

-- a crash after the first `t` calls may have left these bytes
abbrev pub LeftAt : List Call → ℕ → Contents → Type 0
LeftAt calls t contents = (side : Side) → MayLeave (durable_of (take t calls) side) (contents side)

-- the number of calls that failed
abbrev pub failures_of : List Call → ℕ
failures_of calls = count_by (λ call. call.failed) calls

-- at the present moment, this is what a crash now may leave
pub at_now : (calls : List Call) (contents : Contents) → LeftAt calls (length calls) contents ↔ ((side : Side) → MayLeave (durable_of calls side) (contents side))
at_now calls contents = (
  λ left side. subst (λ (l : List Call). MayLeave (durable_of l side) (contents side)) whole (left side),
  λ now side. subst (λ (l : List Call). MayLeave (durable_of l side) (contents side)) (sym whole) (now side),
)
  where
    whole : take (length calls) calls ≡ calls
    whole = take_all (length calls) calls (omega arith)
