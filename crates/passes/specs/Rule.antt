-- The rule of a hub's table. Word 0 is the number of events, and word 1 is 1 once a stop was asked.
use Rattle.std.specs.Prelude.{◌≡◌, ◌⊎◌, ◌↔◌, ⊤, ℕ, ◌<◌, ◌≤◌, Bool, true, List, [], ◌∷◌, IfSome}
use mathlib.Core.List.{IsPrefix}
use mathlib.Core.Option.{some}
use lib.ListN.{get_elem?}
use Rattle.atomic_table.specs.Table.{State}
use Rattle.passes.specs.Known.{Known, Made, Book, SeatView, nobody, pass, desk, commits, count_of, made_by}

-- What a history has of a pass: its commits begin with those that the pass has seen, so no pass sees a part of one; the commits made with the pass are all
-- that it has of its number; and it has no fewer events than `commits` said.
pub record IsInHistory (history : List Made) (known : Known) : Type 0 where
  pub seen : IsPrefix known.seen (commits history)
  pub mine : made_by known.number history ≡ known.mine
  pub told : known.told ≤ count_of (commits history)

-- no pass from this number on has a commit in the history
abbrev pub HasNoneFrom : ℕ → List Made → Type 0
HasNoneFrom count history = (number : ℕ) → count ≤ number → made_by number history ≡ []

-- What the rule says of a pass that is with a seat. `home` gives one seat for each number, so no two seats have the same pass; and `asked` says which
-- passes asked for a stop.
pub record IsPassOf (book : Book) (stop : ℕ) (home : ℕ → ℕ) (asked : ℕ → Bool) (seat : ℕ) (known : Known) : Type 0 where
  pub at_home : home known.number ≡ seat
  pub numbered : known.number < book.passes
  pub in_history : IsInHistory book.history known
  pub asks : known.asked ≡ asked known.number
  pub hears : known.heard ≡ true → stop ≡ 1

-- What the rule says of a seat. Only the keeper's seat has a book, and it is the book.
abbrev pub Fits : Book → ℕ → ℕ → (ℕ → ℕ) → (ℕ → Bool) → ℕ → SeatView → Type 0
Fits book stop keeper home asked seat nobody = ⊤
Fits book stop keeper home asked seat (pass known) = IsPassOf book stop home asked seat known
Fits book stop keeper home asked seat (desk own) = (seat ≡ keeper) × (own.book ≡ book) × IfSome own.guest (IsPassOf book stop home asked seat)

-- a pass asked for a stop, of this many
abbrev pub HasAsker : ℕ → (ℕ → Bool) → Type 0
HasAsker passes asked = (number : ℕ) × (number < passes) × (asked number ≡ true)

-- There is one book. Word 0 is the number of events in its history; word 1 is 0 or 1, and 1 exactly if a pass asked for a stop. Of each pass the history has just
-- what was made with it, and it begins with what the pass has seen; it has nothing of a number that no pass has.
pub record IsRuled (state : State (Unit {0}) SeatView) : Type 0 where
  pub book : Book
  pub stop : ℕ
  pub keeper : ℕ
  pub home : ℕ → ℕ
  pub asked : ℕ → Bool
  pub words : state.words ≡ count_of (commits book.history) ∷ stop ∷ []
  pub flag : (stop ≡ 0) ⊎ (stop ≡ 1)
  pub asker : (stop ≡ 1) ↔ HasAsker book.passes asked
  pub none_else : HasNoneFrom book.passes book.history
  pub each : (seat : ℕ) (view : SeatView) → get_elem? state.views seat ≡ some view → Fits book stop keeper home asked seat view
