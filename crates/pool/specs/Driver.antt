-- What a driver may do.
use Rattle.std.specs.Prelude.{Bool, true, false, ℕ, Result}
use Rattle.pool.specs.declared.driver.Driver.{Driver}
use Rattle.pool.specs.declared.driver.Driver.TheVariants.{Alone, Crew}
use Rattle.disk.specs.declared.storage.Disk.{Ghosts}
use Rattle.commit.specs.Core.{Core}
use Rattle.commit.specs.Runs.{RunsWithin}
use Rattle.commit.specs.declared.verdict.Verdict.{Verdict}
use Rattle.commit.specs.declared.verdict.RunError.{RunError}

-- It may be asked to stop: workers may be, if their probe may answer `Stop`.
abbrev pub may_be_asked : {R P : Type 0} → (may_stop : Bool) → Driver R P → Bool
may_be_asked may_stop Alone = false
may_be_asked may_stop (Crew crew) = may_stop

-- It starts threads, and a start may be refused.
abbrev pub may_spawn : {R P : Type 0} → Driver R P → Bool
may_spawn Alone = false
may_spawn (Crew crew) = true

-- a run with a limit, by this driver
abbrev pub RunsBy : {D R P : Type 0} → Ghosts D → Bool → Driver R P → Core D → Core D → ℕ → Result Verdict RunError → Type 0
RunsBy storage may_stop driver old new limit result = RunsWithin storage (may_be_asked may_stop driver) (may_spawn driver) old new limit result
