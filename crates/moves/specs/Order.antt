-- The commit order of a store: what is known of it after each move.
use Rattle.std.specs.Prelude.{◌≡◌, ◌⊎◌, true, false, List, [], ◌∷◌, ◌++◌, Ok, Err}
use Rattle.terms.specs.Commits.{Commit}
use Rattle.commit.specs.Core.{Core, is_halted}
use Rattle.commit.specs.Runs.{in_one}
use Rattle.moves.specs.Call.{Call, Tries, acknowledged}
use Rattle.moves.specs.Move.{Move, Place, at_core, at_disk, whole, cut, goes_on, going_cut, crashes, gives_back, crashes_again, opens, opening_cut}

-- The commits made since the creation, in their order, each of which was acknowledged or found by an opening; and those in doubt after them, which may
-- be on the disk or not, the first ones before the later ones.
pub record History : Type 0 where
  pub made : List Commit
  pub doubt : List Commit

-- a new store
abbrev pub begun : History
begun = record { made = []; doubt = [] }

-- the call halted the core
abbrev pub HaltedBy : {D : Type 0} → Core D → Core D → Type 0
HaltedBy old new = (is_halted old ≡ false) × (is_halted new ≡ true)

-- the call tries to commit nothing
abbrev pub TriesNone : Call → Type 0
TriesNone call = (commit : Commit) → Tries call commit → ⊥

-- the commit that the call tried is in doubt, and nothing was before
abbrev pub Doubts : Call → History → History → Type 0
Doubts call before after = (commit : Commit) × Tries call commit × (before.doubt ≡ []) × (after ≡ record { made = before.made; doubt = commit ∷ [] })

-- Commits came one after another: they are made, and what is in doubt in the core is in doubt, as one more. A core that was halted made none.
abbrev pub Goes : {D : Type 0} → List Commit → (old new : Core D) → History → History → Type 0
Goes commits old new before after =
    ((is_halted old ≡ true) × (commits ≡ []) × (after ≡ before)) ⊎ ((is_halted old ≡ false) × (before.doubt ≡ []) × (after ≡ record { made = before.made ++ commits; doubt = in_one new.in_doubt }))

-- the same where a crash cut them off: each of the commits may be there, the first ones before the later ones
abbrev pub GoesInPart : {D : Type 0} → List Commit → (old new : Core D) → History → History → Type 0
GoesInPart commits old new before after = ((is_halted old ≡ true) × (after ≡ before)) ⊎ ((is_halted old ≡ false) × (before.doubt ≡ []) × (after ≡ record { made = before.made; doubt = commits ++ in_one new.in_doubt }))

-- A call that returned `Ok` made its commit, after all others. One that returned an error and halted the core leaves the commit that it tried in doubt, and one that a crash cut off may. An
-- opening finds a prefix of those in doubt, and the rest is lost. Nothing else changes the order.
abbrev pub Extends : {D : Type 0} → Move D → (from to : Place D) → History → History → Type 0
Extends (whole call) (at_core old) (at_core new) before after =
    (HaltedBy old new × (acknowledged call ≡ []) × Doubts call before after) ⊎ ((HaltedBy old new → TriesNone call) × (after ≡ record { made = before.made ++ acknowledged call; doubt = before.doubt }))
Extends (cut call core) (at_core old) (at_disk disk) before after = (after ≡ before) ⊎ ((is_halted old ≡ false) × Doubts call before after)
Extends (goes_on commits) (at_core old) (at_core new) before after = Goes commits old new before after
Extends (going_cut commits new) (at_core old) (at_disk disk) before after = GoesInPart commits old new before after
Extends crashes (at_core core) (at_disk disk) before after = after ≡ before
Extends gives_back (at_core core) (at_disk disk) before after = after ≡ before
Extends crashes_again (at_disk old) (at_disk disk) before after = after ≡ before
Extends (opens (Ok core)) (at_disk disk) (at_core opened) before after =
    (found : List Commit) × (lost : List Commit) × (before.doubt ≡ found ++ lost) × (after ≡ record { made = before.made ++ found; doubt = [] })
Extends (opens (Err refused)) (at_disk disk) (at_disk back) before after = after ≡ before
Extends (opening_cut result) (at_disk old) (at_disk disk) before after = after ≡ before
Extends move from to before after = ⊥

-- the same along a list of moves
abbrev pub ExtendsAll : {D : Type 0} → List (Move D) → (from to : Place D) → History → History → Type 0
ExtendsAll [] from to before after = (to ≡ from) × (after ≡ before)
ExtendsAll {D} (move ∷ moves) from to before after = (place : Place D) × (next : History) × Extends move from place before next × ExtendsAll moves place to next after

-- ---- laws

-- the commits that a move acknowledged
abbrev pub acknowledged_by : {D : Type 0} → Move D → List Commit
acknowledged_by (whole call) = acknowledged call
acknowledged_by (goes_on commits) = commits
acknowledged_by other = []

-- What was made stays, in front of what comes later. So what a move acknowledged comes after all that was made before the move, and stays there.
abbrev pub MadeStays : Type 0 → Type 0
MadeStays D = (moves : List (Move D)) (from to : Place D) (before after : History) → ExtendsAll moves from to before after → (later : List Commit) × (after.made ≡ before.made ++ later)

abbrev pub AcknowledgedStays : Type 0 → Type 0
AcknowledgedStays D =
    (one two : List (Move D)) (move : Move D) (from to : Place D) (before after : History) → ExtendsAll (one ++ move ∷ two) from to before after
    → (place : Place D) × (earlier : History) × ExtendsAll one from place before earlier × ((later : List Commit) × (after.made ≡ earlier.made ++ acknowledged_by move ++ later))

-- An example that is refused: after a put that returned `Ok`, a crash, and an opening that returned `Ok`, nothing is there.
abbrev pub Forgets : Type 0 → Type 0
Forgets D =
    (call : Call) (commit : Commit) (core : Core D) (from to : Place D) (after : History) → acknowledged call ≡ commit ∷ [] → ExtendsAll {D = D} (whole call ∷ crashes ∷ opens (Ok core) ∷ []) from to begun after → after.made ≡ [] → ⊥
