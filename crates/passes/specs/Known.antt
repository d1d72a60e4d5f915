-- What the seats of a table know.
use Rattle.std.specs.Prelude.{◌≡◌, ◌+◌, ℕ, Bool, true, false, List, [], ◌∷◌, ◌++◌, length, Option, Some, None, if◌then◌else◌, nat_eq}
use Rattle.terms.specs.Commits.{Commit, events_of}

-- A pass: its number, the commits that it has seen, those that were made with it, the last result of `commits` for it, whether it asked for a stop, and
-- whether it learned that one was asked.
pub record Known : Type 0 where
  pub number : ℕ
  pub seen : List Commit
  pub mine : List Commit
  pub told : ℕ
  pub asked : Bool
  pub heard : Bool

-- a commit, and the number of the pass that it was made with
pub record Made : Type 0 where
  pub pass : ℕ
  pub commit : Commit

-- the history, and how many passes there are
pub record Book : Type 0 where
  pub history : List Made
  pub passes : ℕ

-- the keeper's desk: the book, and the pass that is lent to the keeper
pub record Desk : Type 0 where
  pub book : Book
  pub guest : Option Known

-- what a seat knows
pub data SeatView : Type 0 where
  nobody : SeatView
  pass : Known → SeatView
  desk : Desk → SeatView

-- the commits of a history
abbrev pub commits : List Made → List Commit
commits [] = []
commits (made ∷ history) = made.commit ∷ commits history

-- how many events these commits have
abbrev pub count_of : List Commit → ℕ
count_of made = length (events_of made)

-- those that were made with the pass of this number
abbrev pub made_by : ℕ → List Made → List Commit
made_by number [] = []
made_by number (made ∷ history) = if nat_eq made.pass number then made.commit ∷ made_by number history else made_by number history

-- a pass that has seen nothing and made nothing
abbrev pub newcomer : ℕ → Known
newcomer number = record { number = number; seen = []; mine = []; told = 0; asked = false; heard = false }

-- the desk before the first pass
abbrev pub first_desk : Desk
first_desk = record { book = record { history = []; passes = 0 }; guest = None }

-- ---- what changes

-- the pass has seen the whole history
abbrev pub up_to_date : List Made → Known → Known
up_to_date history known = record known { seen = commits history }

-- there is one view, that of this pass, which has seen the whole history of the desk now
abbrev pub HasSeenAll : Desk → List SeatView → Known → Type 0
HasSeenAll d views known = views ≡ pass (up_to_date d.book.history known) ∷ []

-- one commit more was made with it
abbrev pub with_commit : Commit → Known → Known
with_commit commit known = record known { mine = known.mine ++ commit ∷ [] }

-- it learned how many events there are
abbrev pub told_of : ℕ → Known → Known
told_of count known = record known { told = count }

-- it asked for a stop
abbrev pub asked_of : Known → Known
asked_of known = record known { asked = true }

-- it learned whether a stop was asked
abbrev pub heard_of : Bool → Known → Known
heard_of true known = record known { heard = true }
heard_of false known = known

-- the commit comes to the history, made with the pass of this number
abbrev pub written : ℕ → Commit → Book → Book
written number commit book = record book { history = book.history ++ record { pass = number; commit = commit } ∷ [] }

-- the pass is lent to the keeper
abbrev pub hosting : Known → Desk → Desk
hosting known d = record d { guest = Some known }

-- it was given back
abbrev pub alone : Desk → Desk
alone d = record d { guest = None }

-- the commit was made with the guest
abbrev pub writing_for : Commit → Book → Option Known → Desk
writing_for commit book None = record { book = book; guest = None }
writing_for commit book (Some known) = record { book = written known.number commit book; guest = Some (with_commit commit known) }

abbrev pub writing : Commit → Desk → Desk
writing commit d = writing_for commit d.book d.guest

-- there is one pass more
abbrev pub one_more : Desk → Desk
one_more d = record d { book = record { history = d.book.history; passes = d.book.passes + 1 } }

-- the commit was made with the pass of this number
abbrev pub writing_by : ℕ → Commit → Desk → Desk
writing_by number commit d = record d { book = written number commit d.book }
