-- What a pass sees when it is lent to the keeper.
use Rattle.std.specs.Prelude.{◌≡◌, List, [], ◌∷◌, ◌++◌}
use Rattle.terms.specs.Commits.{Commit}
use Rattle.passes.specs.Known.{Known, Made, up_to_date, with_commit}
use Rattle.passes.specs.Rule.{IsInHistory}

-- the pass now sees a history that had all that it had of the pass, and nothing was made
pub record Shows (history : List Made) (old new : Known) : Type 0 where
  pub before : IsInHistory history old
  pub pass : new ≡ up_to_date history old

-- the commit was made with the pass, which now sees the history with it
pub record Writes (commit : Commit) (earlier later : List Made) (old new : Known) : Type 0 where
  pub before : IsInHistory earlier old
  pub history : later ≡ earlier ++ record { pass = old.number; commit = commit } ∷ []
  pub pass : new ≡ up_to_date later (with_commit commit old)
