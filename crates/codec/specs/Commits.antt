-- How a record spells a commit: one event by the event's own bytes, several as a group. One event alone is never a group.
use Rattle.std.specs.Prelude.{◌≡◌, ◌≤◌, ℕ, List, [], ◌∷◌, ◌++◌, length}
use Rattle.std.specs.List.{flat_map, AllByRecursion}
use Rattle.byteorder.specs.Endian.{little_bytes}
use Rattle.terms.specs.declared.event.Event.{Event}
use Rattle.terms.specs.Commits.{Commit}
use Rattle.codec.specs.declared.payload.TheConstants.{GROUP, MOST_EVENTS}
use Rattle.codec.specs.Laws.{SpellsNone}
use Rattle.codec.specs.Spelling.{event_bytes, IsEvent}

-- the number of events in two bytes, and the events in order
abbrev pub group_bytes : List Event → List ℕ
group_bytes events = GROUP ∷ little_bytes 2 (length events) ++ flat_map event_bytes events

abbrev pub commit_bytes : Commit → List ℕ
commit_bytes [] = []
commit_bytes (event ∷ []) = event_bytes event
commit_bytes (first ∷ second ∷ more) = group_bytes (first ∷ second ∷ more)

-- a payload can spell the commit
pub record IsCommit (most : ℕ) (commit : Commit) : Type 0 where
  pub some : 1 ≤ length commit
  pub few : length commit ≤ MOST_EVENTS
  pub each : AllByRecursion (IsEvent most) commit

-- the bytes are its spelling
abbrev pub SpellsCommit : ℕ → List ℕ → Commit → Type 0
SpellsCommit most bytes commit = IsCommit most commit × (bytes ≡ commit_bytes commit)

-- what must not be read: a group of one event is no spelling of any commit
abbrev pub GroupOfOneSpellsNone : ℕ → Type 0
GroupOfOneSpellsNone most = (event : Event) → SpellsNone (SpellsCommit most) (group_bytes (event ∷ []))
