-- A copy in memory of what a store was.
use Rattle.std.specs.Prelude.{◌≡◌, ℕ}
use Rattle.commit.specs.Core.{Core, environment, facts, graph}
use Rattle.sides.specs.First.{environment_then, facts_then}
use Rattle.vault.specs.declared.reading.LiveSide.{LiveSide}
use Rattle.vault.specs.LiveSides.{IsSideOf}

-- it has what the side had after the first of its commits
pub record IsCopyAfter (count : ℕ) {live : LiveSide} (read : IsSideOf live) {D : Type 0} (copy : Core D) : Type 0 where
  pub graph : graph copy ≡ live.graph
  pub environment : environment copy ≡ environment_then count read.is_side
  pub facts : facts copy ≡ facts_then count read.is_side
