-- What a core keeps from call to call.
use Rattle.std.specs.Prelude.{◌≡◌, ◌≤◌, true, false, [], IsTrue}
use Rattle.disk.specs.declared.storage.Disk.{Ghosts}
use Rattle.disk.specs.declared.side.Side.{Side}
use Rattle.disk.specs.File.{File}
use Rattle.disk.specs.Time.{Contents, MayLeaveNow}
use Rattle.vault.specs.Store.{Holds, StandsBeforeOrAfter}
use Rattle.machine.specs.Machine.{running_count}
use Rattle.machine.specs.Promise.{IsKept as KeepsMachine}
use Rattle.commit.specs.Core.{Core, graph, facts, environment, is_halted}

-- a turnover halted the core: it is halted, and no event is in doubt
abbrev pub IsHaltedByTurn : {D : Type 0} → Core D → Type 0
IsHaltedByTurn c = (is_halted c ≡ true) × (c.in_doubt ≡ [])

-- On an honest disk: if the core is not halted, its files hold its facts. A crash between its calls leaves its facts, or those with the event in
-- doubt; if a turnover halted it, the clause of that call says what a crash leaves.
pub record IsKept {D : Type 0} (files : D → Side → File) (c : Core D) : Type 0 where
  pub holds : is_halted c ≡ false → Holds files c.vault (graph c) (environment c) (facts c)
  pub left : (IsHaltedByTurn c → ⊥) → (contents : Contents) → MayLeaveNow (files c.vault.disk) contents → StandsBeforeOrAfter (graph c) (environment c) (facts c) c.in_doubt contents

-- All that a core keeps: on an honest disk its files hold what it has, nothing is in doubt unless it is halted, its state in memory is sound, and no
-- more instances run than it may commit steps.
pub record Keeps {D : Type 0} (storage : Ghosts D) (c : Core D) : Type 0 where
  pub kept : IsTrue storage.is_honest → IsKept storage.files c
  pub settled : is_halted c ≡ false → c.in_doubt ≡ []
  pub machine : KeepsMachine c.machine
  pub allowed : running_count c.machine ≤ c.allowance
