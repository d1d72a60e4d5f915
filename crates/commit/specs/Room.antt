-- Room is made before an event is committed.
use Rattle.std.specs.Prelude.{◌≡◌, List, true, false}
use Rattle.terms.specs.declared.event.Event.{Event}
use Rattle.machine.specs.declared.refusal.Refusal.{Refusal}
use Rattle.machine.specs.Legal.{IsLegal}
use Rattle.machine.specs.Group.{puts_of_all}
use Rattle.machine.specs.Machine.{HasRoom, puts_of}
use Rattle.machine.specs.Room as machine
use Rattle.machine.specs.State.{AreLegalFrom}
use Rattle.vault.specs.declared.error.VaultError.TheVariants.{NoMemory, Halted}
use Rattle.commit.specs.declared.error.CoreError.{CoreError}
use Rattle.commit.specs.declared.error.CoreError.TheVariants.{Refused, Store}
use Rattle.commit.specs.Core.{Core, graph, facts, is_halted}

-- nothing changes, except that there may be more room in memory
pub record GivesRoom {D : Type 0} (old new : Core D) : Type 0 where
  pub machine : machine.GivesRoom old.machine new.machine
  pub vault : new.vault ≡ old.vault
  pub in_doubt : new.in_doubt ≡ old.in_doubt
  pub latest : new.latest ≡ old.latest
  pub allowance : new.allowance ≡ old.allowance

-- Why an event is refused before its record is written: the core is halted; or there is a cause why the event may not come; or it may come, and
-- memory was refused.
abbrev pub RefusesFirst : {D : Type 0} → Core D → (Refusal → Type 0) → Event → CoreError → Type 0
RefusesFirst c why event (Refused refusal) = (is_halted c ≡ false) × why refusal
RefusesFirst c why event (Store Halted) = is_halted c ≡ true
RefusesFirst c why event (Store NoMemory) = (is_halted c ≡ false) × IsLegal (graph c) (facts c) event
RefusesFirst c why event (Store other) = ⊥

-- what a commit requires: the core is not halted, the event is legal, and there is room for what it puts
pub record IsDue {D : Type 0} (c : Core D) (event : Event) : Type 0 where
  pub working : is_halted c ≡ false
  pub legal : IsLegal (graph c) (facts c) event
  pub room : HasRoom c.machine (puts_of event)

-- the same for several events, each of which comes after those before it
pub record AreDue {D : Type 0} (c : Core D) (events : List Event) : Type 0 where
  pub working : is_halted c ≡ false
  pub legal : AreLegalFrom (graph c) (facts c) events
  pub room : HasRoom c.machine (puts_of_all events)
