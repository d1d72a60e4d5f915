-- A hub when it is opened, and when it is closed.
use Rattle.std.specs.Prelude.{◌≡◌, ◌↔◌, ◌+◌, ◌<◌, ℕ, true, false, List, ◌++◌}
use Rattle.std.specs.List.{AllByRecursion}
use Rattle.disk.specs.declared.storage.Disk.{Ghosts}
use Rattle.disk.specs.Time.{Contents}
use Rattle.terms.specs.Commits.{Commit}
use Rattle.machine.specs.Machine.{IsPut}
use Rattle.commit.specs.Core.{Core}
use Rattle.commit.specs.Kept.{IsHaltedByTurn}
use Rattle.commit.specs.Runs.{IsEnd}
use Rattle.atomic_table.specs.Seated.{TableId}
use Rattle.hub.specs.declared.close.CloseError.{CloseError}
use Rattle.hub.specs.declared.close.CloseError.TheVariants.{PassMissing, TaskOut}
use Rattle.passes.specs.Known.{Known, Made, commits, made_by}
use Rattle.passes.specs.Opening.{Opening}
use Rattle.passes.specs.Roll.{AllMade, Blank, has_number, mine_of, new_passes}
use Rattle.passes.specs.Rule.{IsInHistory}
use Rattle.hub.specs.Opening.{opening_of, WasTurned, AreLegalBehind, IsBehind}

-- The whole history of a hub that is closed with these passes. It is legal, and the core has the state after it. It begins with what each pass has
-- seen, and has just the passes' commits, those of each pass in their order. Those of the environment's passes are its puts, and those of the workers'
-- passes are ends of instances. If a turnover halted the core, that was before the hub was opened. `Ran` is what is known of how the commits
-- came.
pub record IsWhole {D : Type 0} (Ran : List Commit → Core D → Type 0) (opening : Opening) (envs workers : List Known) (c : Core D) (history : List Made) : Type 0 where
  pub legal : AreLegalBehind opening (commits history)
  pub behind : IsBehind opening (commits history) c
  pub each : AllByRecursion (IsInHistory history) (envs ++ workers)
  pub made : (number : ℕ) → made_by number history ≡ mine_of number (envs ++ workers)
  pub puts : AllMade IsPut envs
  pub ends : AllMade IsEnd workers
  pub turned : IsHaltedByTurn c → WasTurned opening
  pub ran : Ran (commits history) c

-- such a history is there
abbrev pub HasWholeHistory : {D : Type 0} → (List Commit → Core D → Type 0) → Opening → List Known → List Known → Core D → Type 0
HasWholeHistory Ran opening envs workers c = (history : List Made) × IsWhole Ran opening envs workers c history

-- these are the new passes that a blank is for, of the environment and of workers
abbrev pub AreNewPasses : Blank → List Known → List Known → Type 0
AreNewPasses blank envs workers = (envs ≡ new_passes 0 blank.envs) × (workers ≡ new_passes blank.envs blank.workers)

-- The names of a hub fit this blank and this core: they have the blank's words and counts of passes, what the core has when the hub is opened, and
-- for each moment what a crash may leave, as the disk says then.
pub record IsNamedFor {D : Type 0} (storage : Ghosts D) (table : TableId) (passes envs : ℕ) (opening : Opening) (left : ℕ → Contents → Type 0) (blank : Blank) (c : Core D) : Type 0 where
  pub words : table ≡ blank.table
  pub passes_are : passes ≡ blank.envs + blank.workers
  pub envs_are : envs ≡ blank.envs
  pub opening_is : opening ≡ opening_of storage c
  pub left_is : (t : ℕ) (contents : Contents) → left t contents ↔ storage.left_at c.vault.disk t contents

-- Why a hub with `count` passes is not closed with these: one is missing; or, for `TaskOut`, none is.
abbrev pub WhyNotClosed : ℕ → List Known → CloseError → Type 0
WhyNotClosed count passes PassMissing = (number : ℕ) × (number < count) × (has_number number passes ≡ false)
WhyNotClosed count passes TaskOut = (number : ℕ) → number < count → has_number number passes ≡ true
