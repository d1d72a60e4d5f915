-- Every list of moves of a store: whole calls and runs, those that a crash cuts off, crashes between calls, and openings.
use Rattle.disk.specs.declared.storage.Disk.{Ghosts}
use Rattle.std.specs.Prelude.{◌≡◌, ℕ, List, [], ◌∷◌, Result, Ok, Err}
use Rattle.terms.specs.Commits.{Commit}
use Rattle.vault.specs.declared.refused.Refused.{Refused}
use Rattle.vault.specs.Commits.{IsLeft}
use Rattle.commit.specs.Core.{Core}
use Rattle.commit.specs.Kept.{Keeps}
use Rattle.commit.specs.Opened.{OpensAs, disk_of}
use Rattle.commit.specs.Went.{GoesOn}
use Rattle.moves.specs.Call.{Call, Does}

-- where a store is: a core is open on it, or only its disk is there
pub data Place (D : Type 0) : Type 0 where
  at_core : Core D → Place D
  at_disk : D → Place D

pub data Move (D : Type 0) : Type 0 where
  -- a call that returned
  whole : Call → Move D
  -- a crash cut the call off; had it not come, the call would have returned this core
  cut : Call → Core D → Move D
  -- a run, a session, or any other calls one after another, by which these commits came: the last of them returned
  goes_on : List Commit → Move D
  -- a crash cut them off; had it not come, they would have led to this core by these commits
  going_cut : List Commit → Core D → Move D
  -- a crash between two calls
  crashes : Move D
  -- `into_disk`
  gives_back : Move D
  -- a further crash, of a store that is not open
  crashes_again : Move D
  -- an opening that returned
  opens : Result (Core D) (Refused D) → Move D
  -- a crash cut the opening off; had it not come, the opening would have returned this
  opening_cut : Result (Core D) (Refused D) → Move D

module _ {D : Type 0} (storage : Ghosts D) where
  -- The move leads from one place to the next. Each call does what its contract says, and each core keeps what a core keeps. A crash leaves a disk of
  -- which all that a further crash may leave is what a crash at some moment of the call, or between calls, may have left.
  abbrev pub Leads : Move D → (from to : Place D) → Type 0
  Leads (whole call) (at_core old) (at_core new) = Does storage call old new × Keeps storage new
  Leads (cut call new) (at_core old) (at_disk disk) = Does storage call old new × Keeps storage new × IsLeft storage old.vault.disk new.vault.disk disk
  Leads (goes_on commits) (at_core old) (at_core new) = GoesOn storage old new commits × Keeps storage new
  Leads (going_cut commits new) (at_core old) (at_disk disk) = GoesOn storage old new commits × Keeps storage new × IsLeft storage old.vault.disk new.vault.disk disk
  Leads crashes (at_core core) (at_disk disk) = IsLeft storage core.vault.disk core.vault.disk disk
  Leads gives_back (at_core core) (at_disk disk) = disk ≡ core.vault.disk
  Leads crashes_again (at_disk before) (at_disk disk) = IsLeft storage before before disk
  Leads (opens (Ok core)) (at_disk disk) (at_core opened) = OpensAs storage disk (Ok core) × (opened ≡ core) × Keeps storage core
  Leads (opens (Err refused)) (at_disk disk) (at_disk back) = OpensAs storage disk (Err refused) × (back ≡ refused.disk)
  Leads (opening_cut result) (at_disk before) (at_disk disk) = OpensAs storage before result × IsLeft storage before (disk_of result) disk
  Leads move from to = ⊥

  -- one move after another
  abbrev pub LeadsAll : List (Move D) → (from to : Place D) → Type 0
  LeadsAll [] from to = to ≡ from
  LeadsAll (move ∷ moves) from to = (between : Place D) × Leads move from between × LeadsAll moves between to
