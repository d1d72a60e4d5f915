-- A core: a store on two files, with the state of it in memory.
use Rattle.std.specs.Prelude.{ℕ, Bool, List, Option}
use Rattle.terms.specs.declared.name.Inst.{Inst}
use Rattle.terms.specs.declared.event.Event.{Event}
use Rattle.terms.specs.Sets.{Facts}
use Rattle.graph.specs.Graph.{Graph}
use Rattle.instances.specs.declared.state.State.{State}
use Rattle.machine.specs.Machine.{Machine}
use Rattle.machine.specs.Machine as machine
use Rattle.vault.specs.declared.vault.Vault.{Vault}

-- Its files, its graph with all that it holds in memory, the events of the call that halted it, which may be on the disk or not, the events of its latest
-- commit since it was opened, and how many more steps it may commit, including those that run.
pub record Core (D : Type 0) : Type 0 where
  pub vault : Vault D
  pub machine : Machine
  pub in_doubt : List Event
  pub latest : List Event
  pub allowance : ℕ

abbrev pub graph : {D : Type 0} → Core D → Graph
graph c = c.machine.graph

-- the facts that it has, and those that the environment put
abbrev pub facts : {D : Type 0} → Core D → Facts
facts c = machine.facts c.machine

abbrev pub environment : {D : Type 0} → Core D → Facts
environment c = machine.environment c.machine

-- the state of an instance, if it is prescribed
abbrev pub state_of : {D : Type 0} → Core D → Inst → Option State
state_of c instance = machine.state_of c.machine instance

-- whether a call of its disk returned an error before
abbrev pub is_halted : {D : Type 0} → Core D → Bool
is_halted c = c.vault.halted
