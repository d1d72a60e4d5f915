-- What each step of the table changes, and what it says.
use Rattle.std.specs.Prelude.{◌≡◌, ◌⊎◌, ◌≤◌, ⊤, ℕ, Bool, false, List, [], ◌∷◌, Option, true, IfSome, Some, None}
use Rattle.terms.specs.Commits.{Commit}
use Rattle.atomic_table.specs.Table.{Me, Step}
use Rattle.atomic_table.specs.Seated.{TableId}
use Rattle.atomic_table.specs.declared.badge.Badge.{Badge}
use Rattle.passes.specs.Known.{Known, Book, Desk, SeatView, nobody, pass, desk, count_of, newcomer, first_desk, up_to_date, told_of, asked_of, heard_of, hosting, alone, writing, one_more}
use Rattle.passes.specs.Rule.{IsInHistory, HasNoneFrom}

-- a seat: what it knows, and the slots that it holds, of which the table has none
abbrev pub Seated : Type 0
Seated = Me (Unit {0}) SeatView

-- ---- the keeper

-- The keeper takes a pass in.
abbrev pub lent : SeatView → SeatView → SeatView
lent (desk d) (pass known) = desk (hosting known d)
lent one other = one

-- The guest goes, and has seen the whole history.
abbrev pub guest_gone : SeatView → SeatView
guest_gone (desk d) = desk (alone d)
guest_gone view = view

-- the seat of a guest that was given back
abbrev pub gone_as : Book → Option Known → SeatView
gone_as book (Some known) = pass (up_to_date book.history known)
gone_as book None = nobody

abbrev pub guest_out : SeatView → SeatView
guest_out (desk d) = gone_as d.book d.guest
guest_out view = nobody

-- The keeper makes a pass.
abbrev pub one_made : SeatView → SeatView
one_made (desk d) = desk (one_more d)
one_made view = view

abbrev pub new_one : SeatView → SeatView
new_one (desk d) = pass (newcomer d.book.passes)
new_one view = nobody

-- The commit is written for the guest.
abbrev pub written_to : Commit → SeatView → SeatView
written_to commit (desk d) = desk (writing commit d)
written_to commit view = view

abbrev pub Adds : Commit → Step (Unit {0}) → Seated → ℕ → Seated → Type 0
Adds commit step before found after = after ≡ (written_to commit before.0, before.1)

-- The history has what the guest knows, and no commits of a number that no pass has.
pub record IsCompared (d : Desk) : Type 0 where
  pub guest : IfSome d.guest (IsInHistory d.book.history)
  pub none_else : HasNoneFrom d.book.passes d.book.history

abbrev pub TellsDesk : SeatView → Type 0
TellsDesk (desk d) = IsCompared d
TellsDesk view = ⊤

-- The keeper learns that the history has what its guest knows.
abbrev pub Learns : Step (Unit {0}) → Seated → ℕ → Seated → Type 0
Learns step before found after = (after ≡ before) × TellsDesk before.0

-- ---- a pass

abbrev pub telling : ℕ → SeatView → SeatView
telling count (pass known) = pass (told_of count known)
telling count view = view

-- the number of events is not below what the pass was told, nor below the events that it has seen
abbrev pub IsCountFor : ℕ → Known → Type 0
IsCountFor count known = (known.told ≤ count) × (count_of known.seen ≤ count)

abbrev pub TellsCount : ℕ → SeatView → Type 0
TellsCount count (pass known) = IsCountFor count known
TellsCount count view = ⊤

-- The pass learns how many events there are.
abbrev pub Counts : Step (Unit {0}) → Seated → ℕ → Seated → Type 0
Counts step before found after = (after ≡ (telling found before.0, before.1)) × TellsCount found before.0

abbrev pub asking : SeatView → SeatView
asking (pass known) = pass (asked_of known)
asking view = view

-- The pass asks for a stop.
abbrev pub Asks : Step (Unit {0}) → Seated → ℕ → Seated → Type 0
Asks step before found after = after ≡ (asking before.0, before.1)

abbrev pub hearing : Bool → SeatView → SeatView
hearing heard (pass known) = pass (heard_of heard known)
hearing heard view = view

-- the pass neither asked for a stop nor heard of one
abbrev pub KnowsOfNoStop : SeatView → Type 0
KnowsOfNoStop (pass known) = (known.asked ≡ false) × (known.heard ≡ false)
KnowsOfNoStop view = ⊤

-- The pass learns whether a stop was asked.
abbrev pub Hears : Step (Unit {0}) → Seated → ℕ → Seated → Type 0
Hears step before found after = ((found ≡ 0) × KnowsOfNoStop before.0 × (after ≡ before)) ⊎ ((found ≡ 1) × (after ≡ (hearing true before.0, before.1)))

-- ---- what a seat or a badge has

-- what the pass of a badge knows
abbrev pub known : List SeatView → Known
known (pass own ∷ views) = own
known views = newcomer 0

-- the badge of a pass of this table
abbrev pub IsBadge : TableId → Badge SeatView → Type 0
IsBadge table badge = (badge.table_id ≡ table) × (badge.views ≡ pass (known badge.views) ∷ [])

-- the desk of the keeper's seat
abbrev pub desk_of : SeatView → Desk
desk_of (desk d) = d
desk_of view = first_desk
