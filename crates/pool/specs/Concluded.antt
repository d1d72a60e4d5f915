-- How a run is concluded after the workers have ended.
use Rattle.disk.specs.declared.storage.Disk.{Ghosts}
use Rattle.std.specs.Prelude.{◌≡◌, ◌⊎◌, ◌+◌, ℕ, Bool, true, false, Option, None, Some, IfSome, Result, Err, if◌then◌else◌}
use Rattle.commit.specs.declared.verdict.Verdict.{Verdict}
use Rattle.commit.specs.declared.status.Status.TheVariants.{Working}
use Rattle.commit.specs.declared.verdict.RunError.{RunError}
use Rattle.commit.specs.declared.verdict.RunError.TheVariants.{Spawn, NoMemory, Full}
use Rattle.commit.specs.Core.{Core, is_halted}
use Rattle.commit.specs.Runs.{IsAt, RunsWithin, TellsVerdict}
use Rattle.pool.specs.declared.team.Causes.{Causes}

-- the first refusal that the workers met, in the order of the errors
abbrev pub first_refusal : Causes → Option RunError
first_refusal causes = if causes.no_thread then Some Spawn else if causes.no_memory then Some NoMemory else if causes.full then Some Full else None

-- Either the verdict holds already, for any limit of which the allowance is left; or no refusal was met, and one thread runs on within the allowance, and
-- gives the verdict. In a core that still works, the first refusal that was met is the verdict, before the limit and a stop that was asked for.
pub record Concludes {D : Type 0} (storage : Ghosts D) (may_be_asked : Bool) (causes : Causes) (old new : Core D) (result : Result Verdict RunError) : Type 0 where
  pub verdict : ((new ≡ old) × ((limit count : ℕ) → old.allowance + count ≡ limit → TellsVerdict (causes.full ≡ true) may_be_asked true old limit count result))
      ⊎ ((is_halted old ≡ false) × RunsWithin storage false false old new old.allowance result)
  pub first : IsAt old Working → IfSome (first_refusal causes) (λ error. result ≡ Err error)
