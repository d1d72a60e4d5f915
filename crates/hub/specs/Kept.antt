-- What the lock of a hub keeps.
use Rattle.std.specs.Prelude.{◌≡◌, ◌≢◌, ◌⊎◌, ◌≤◌, ℕ, true, false, List, [], None}
use Rattle.disk.specs.declared.storage.Disk.{Ghosts}
use Rattle.disk.specs.declared.side.Side.{Side}
use Rattle.disk.specs.File.{File}
use Rattle.disk.specs.Time.{Contents, MayLeaveNow}
use Rattle.terms.specs.Commits.{Commit}
use Rattle.vault.specs.Store.{StandsBeforeOrAfter}
use Rattle.commit.specs.Core.{Core, is_halted}
use Rattle.commit.specs.Kept.{IsHaltedByTurn}
use Rattle.commit.specs.Runs.{RunsSince}
use Rattle.commit.specs.Steps.{MayClaim, running_count}
use Rattle.passes.specs.Known.{Made, Desk, commits, count_of}
use Rattle.passes.specs.Opening.{Opening}
use Rattle.hub.specs.Opening.{begun_with, end_behind, facts_behind, environment_behind, WasTurned, AreLegalBehind, IsBehind}

-- the history, and the core
pub record Kept (D : Type 0) : Type 0 where
  pub history : List Made
  pub core : Core D

-- A core that was halted when the hub was opened still is, and nothing has happened on its disk: a crash leaves what one might have left then.
pub record Rests {D : Type 0} (storage : Ghosts D) (opening : Opening) (left : ℕ → Contents → Type 0) (c : Core D) : Type 0 where
  pub halted : is_halted c ≡ true
  pub since : storage.moment c.vault.disk ≡ opening.moment
  pub leaves : (t : ℕ) (contents : Contents) → storage.left_at c.vault.disk t contents → left t contents

-- How the commits came. In a hub that has no pass of the environment, on a core that was not halted, all of them are one run. On a core that was
-- halted there are none.
pub record HasRun {D : Type 0} (storage : Ghosts D) (opening : Opening) (left : ℕ → Contents → Type 0) (envs : ℕ) (made : List Commit) (c : Core D) : Type 0 where
  pub run : envs ≡ 0 → opening.halted ≡ false → RunsSince storage (begun_with opening) left c made
  pub rests : opening.halted ≡ true → (made ≡ []) × Rests storage opening left c

-- The keeper is alone, and has the book of all passes. The core has the state after the history, which is legal; the journal ends after its records, so
-- it has at least as many bytes as the history has events. If a turnover halted the core, that was before the hub was opened. `Ran` is what is known of how
-- the commits came.
pub record IsKept {D : Type 0} (Ran : List Commit → Core D → Type 0) (opening : Opening) (count : ℕ) (d : Desk) (c : Core D) : Type 0 where
  pub alone : d.guest ≡ None
  pub passes : d.book.passes ≡ count
  pub behind : IsBehind opening (commits d.book.history) c
  pub legal : AreLegalBehind opening (commits d.book.history)
  pub end : is_halted c ≡ false → c.vault.journal.end ≡ end_behind opening (commits d.book.history)
  pub short : is_halted c ≡ false → count_of (commits d.book.history) ≤ c.vault.journal.end
  pub turned : IsHaltedByTurn c → WasTurned opening
  pub ran : Ran (commits d.book.history) c

-- A crash leaves the state after the history, or, once the core is halted, the state with the commit that is in doubt.
abbrev pub CrashLeavesHistory : {D : Type 0} → (D → Side → File) → Opening → Kept D → Type 0
CrashLeavesHistory files opening kept = (contents : Contents) → MayLeaveNow (files kept.core.vault.disk) contents
    → StandsBeforeOrAfter opening.graph (environment_behind opening (commits kept.history)) (facts_behind opening (commits kept.history)) kept.core.in_doubt contents

-- Of a core that was halted when the hub was opened a crash leaves what it might have left then.
abbrev pub LeavesAsOpened : {D : Type 0} → (D → Side → File) → Opening → (left : ℕ → Contents → Type 0) → Kept D → Type 0
LeavesAsOpened files opening left kept = opening.halted ≡ true → (contents : Contents) → MayLeaveNow (files kept.core.vault.disk) contents → left opening.moment contents

-- An instance runs, or one may be claimed.
abbrev pub IsBusy : {D : Type 0} → Core D → Type 0
IsBusy c = (running_count c ≢ 0) ⊎ ((is_halted c ≡ false) × MayClaim c 0)
