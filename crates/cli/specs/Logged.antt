-- What the log of a store is, and what it comes to.
use Rattle.std.specs.Prelude.{◌≡◌, ◌⊎◌, ℕ, List, Option, drop}
use Rattle.std.specs.Io.KnownBytes.{Appends}
use Rattle.disk.specs.declared.side.Side.{Side}
use Rattle.disk.specs.Time.{Contents}
use Rattle.terms.specs.Commits.{Commit}
use Rattle.terms.specs.Sets.{Facts}
use Rattle.graph.specs.Graph.{Graph}
use Rattle.sides.specs.NextCommit.{StandForCommits}
use Rattle.vault.specs.declared.reading.LiveSide.{LiveSide}
use Rattle.vault.specs.LiveSides.{IsSideOf}
use Rattle.vault.specs.Stands.{IsLive}
use Rattle.cli.specs.declared.outcome.Failure.{Failure}
use Rattle.cli.specs.declared.outcome.Failure.TheVariants as failure
use Rattle.cli.specs.declared.outcome.Outcome.{Outcome}
use Rattle.cli.specs.declared.outcome.Outcome.TheVariants.{Logged, Failed}
use Rattle.cli.specs.LogText.{log_lines}

-- the files stand for a store, and the text has the lines of its commits since its last turnover, from the first on
pub record IsLogOf (contents : Contents) (text : List ℕ) : Type 0 where
  pub live : Side
  pub generation : ℕ
  pub graph : Graph
  pub environment : Facts
  pub facts : Facts
  pub is_live : IsLive contents live generation graph environment facts
  pub is : text ≡ log_lines graph 1 is_live.is_side.commits

-- of whichever commits the bytes are a journal from this position on, the lines were written
abbrev pub WritesLog : Graph → List ℕ → ℕ → (before behind : Option (List ℕ)) → Type 0
WritesLog g bytes start before behind =
    (commits : List Commit) → StandForCommits (drop start bytes) commits → Appends before behind (log_lines g 1 commits)

-- the output failed, or memory was refused
abbrev pub IsLogFailure : Failure → Type 0
IsLogFailure why = (why ≡ failure.Output) ⊎ (why ≡ failure.NoMemory)

abbrev pub FailsToLog : Outcome → Type 0
FailsToLog outcome = (why : Failure) × IsLogFailure why × (outcome ≡ Failed why)

-- the lines of the side's commits were written; or it failed
abbrev pub TellsLog : LiveSide → (before behind : Option (List ℕ)) → Outcome → Type 0
TellsLog live before behind outcome =
    ((outcome ≡ Logged) × ((read : IsSideOf live) → Appends before behind (log_lines live.graph 1 read.is_side.commits)))
    ⊎ FailsToLog outcome
