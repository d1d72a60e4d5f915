-- A crash, and what a record of calls says of each position: which calls since the last sync touched it.
use Rattle.std.specs.Prelude.{◌≡◌, ◌&&◌, ℕ, Bool, false, List, Option, Some, None, if◌then◌else◌}
use Rattle.std.specs.List.{list_any}
use Rattle.disk.specs.declared.side.Side.{Side}
use Rattle.disk.specs.declared.record.Call.{Call}
use Rattle.disk.specs.declared.record.Change.{Change}
use Rattle.disk.specs.declared.record.Change.TheVariants.{Nothing, Write, Cut, Sync}
use Rattle.disk.specs.Side.{is_side}
use Rattle.disk.specs.File.{Durable, File, settled, write_touches, cut_touches}

-- after a crash that left these bytes: reads give them, and the durable state is as before
abbrev pub crashed : List ℕ → File → File
crashed bytes file = record { content = bytes; durable = file.durable }

-- ---- computed from the calls

-- the whole content of the file that a change makes durable, if it is a sync
abbrev pub change_syncs : Change → Option (List ℕ)
change_syncs Nothing = None
change_syncs (Write from count) = None
change_syncs (Cut end) = None
change_syncs (Sync content) = Some content.items

-- the same for a call, and the file on this side
abbrev pub call_syncs : Side → Call → Option (List ℕ)
call_syncs side call = if is_side call.side side then change_syncs call.change else None

-- whether a change touches a position of a file whose synced bytes are these
abbrev pub change_touches : List ℕ → Change → ℕ → Bool
change_touches synced Nothing at = false
change_touches synced (Write from count) at = write_touches (settled synced) from count at
change_touches synced (Cut end) at = cut_touches end at
change_touches synced (Sync content) at = false

-- whether a call touches a position of the file on this side
abbrev pub call_touches : List ℕ → Side → Call → ℕ → Bool
call_touches synced side call at = is_side call.side side && change_touches synced call.change at

-- whether one of the calls touches it
abbrev pub calls_touch : List ℕ → Side → List Call → ℕ → Bool
calls_touch synced side calls at = list_any (λ call. call_touches synced side call at) calls

-- these bytes are synced, and the positions touched since then are those that one of these calls touched on this side
pub record TouchedSince (durable : Durable) (side : Side) (synced : List ℕ) (calls : List Call) : Type 0 where
  pub synced_is : durable.synced ≡ synced
  pub touched_is : (at : ℕ) → durable.touched at ≡ calls_touch synced side calls at
