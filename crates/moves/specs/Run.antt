-- A run as a move.
use Rattle.disk.specs.declared.storage.Disk.{Ghosts}
use Rattle.std.specs.Prelude.{◌≡◌, ℕ, Bool, false, Result}
use Rattle.commit.specs.declared.verdict.RunError.{RunError}
use Rattle.commit.specs.declared.verdict.Verdict.{Verdict}
use Rattle.commit.specs.Core.{Core, is_halted}
use Rattle.commit.specs.Kept.{Keeps}
use Rattle.commit.specs.Runs.{RunsWithin}
use Rattle.commit.specs.Went.{GoesOn}

-- What a run promises of a core that was not halted makes it a move, by the commits that it made; whoever ran its steps, on however many threads.
abbrev pub RunsAreMoves : {D : Type 0} → Ghosts D → Type 0
RunsAreMoves {D} storage =
    (old new : Core D) (may_be_asked may_spawn : Bool) (limit : ℕ) (result : Result Verdict RunError) → is_halted old ≡ false → (run : RunsWithin storage may_be_asked may_spawn old new limit result)
    → Keeps storage new → GoesOn storage old new run.commits
