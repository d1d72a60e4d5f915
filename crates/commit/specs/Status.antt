-- What a core says of itself.
use Rattle.std.specs.Prelude.{◌≡◌, ◌-◌, ◌^◌, ⊤, min, true}
use Rattle.terms.specs.declared.name.Inst.{Inst}
use Rattle.terms.specs.declared.fault.FaultKind.{FaultKind}
use Rattle.terms.specs.Facts.{bad}
use Rattle.terms.specs.Sets.{Facts}
use Rattle.graph.specs.Fits.{HasNoFault}
use Rattle.machine.specs.Legal.{IsQuiet}
use Rattle.machine.specs.Machine.{waiting_count}
use Rattle.machine.specs.Meaning.{Meaning}
use Rattle.machine.specs.State.{IsReached}
use Rattle.machine.specs.Status.{NoneIsActive, IsAllOfMeaning}
use Rattle.commit.specs.declared.status.Status.{Status}
use Rattle.commit.specs.declared.status.Status.TheVariants.{Working, Quiet, Stopped}
use Rattle.commit.specs.Core.{Core, graph, facts, environment}

-- This is how far the store is. `Working`: it has no fault, and some instance is ready or runs. `Quiet`: it has no fault, no instance is ready or
-- runs, and this number of instances wait. `Stopped`: it has this fault.
abbrev pub TellsStatus : {D : Type 0} → Core D → Status → Type 0
TellsStatus c Working = HasNoFault (facts c) × (NoneIsActive c.machine → ⊥)
TellsStatus c (Quiet blocked) = HasNoFault (facts c) × NoneIsActive c.machine × (blocked ≡ min (waiting_count c.machine) (2 ^ 64 - 1))
TellsStatus c (Stopped instance kind) = facts c (bad instance kind) ≡ true

-- legal events lead to what a core holds
abbrev pub IsGenuine : {D : Type 0} → Core D → Type 0
IsGenuine c = IsReached (graph c) (environment c) (facts c)

-- If legal events led here, the meaning on what the environment put has this fault, and no legal events with that environment leave nothing to do.
abbrev pub IsFaultOfMeaning : {D : Type 0} → Core D → Inst → FaultKind → Type 0
IsFaultOfMeaning c instance kind =
    IsGenuine c → Meaning (graph c) (environment c) (bad instance kind) × ((Y : Facts) → IsReached (graph c) (environment c) Y → IsQuiet (graph c) Y → ⊥)

-- What that says of the meaning. `Quiet`: nothing is left to do, and if legal events led here, the facts are all of the meaning. `Stopped`: the fault is one of the
-- meaning.
abbrev pub SaysOfMeaning : {D : Type 0} → Core D → Status → Type 0
SaysOfMeaning c Working = ⊤
SaysOfMeaning c (Quiet blocked) = IsQuiet (graph c) (facts c) × IsAllOfMeaning c.machine
SaysOfMeaning c (Stopped instance kind) = IsFaultOfMeaning c instance kind
