-- Instances that are claimed, parked and given back.
use Rattle.std.specs.Prelude.{◌≡◌, ◌⊎◌, ◌↔◌, ◌<◌, ◌≤◌, ◌-◌, ◌^◌, min, max, ℕ, Bool, false, true, List, Option, None, Some, Result, Ok, IfOk, IfErr, IfSome, IsSome, IsErrOf, OnOk, OnErr}
use Rattle.terms.specs.declared.name.Addr.{Addr}
use Rattle.terms.specs.declared.name.Inst.{Inst}
use Rattle.terms.specs.declared.put.Put.{Put}
use Rattle.graph.specs.Fits.{HasNoFault, IsAbsent}
use Rattle.instances.specs.declared.state.State.{State}
use Rattle.instances.specs.declared.state.State.TheVariants.{Ready, Running, Waiting}
use Rattle.instances.specs.declared.ticket.Ticket.{Ticket}
use Rattle.instances.specs.Tickets.{HandsOut}
use Rattle.steplang.specs.Running.{Asking}
use Rattle.machine.specs.Machine.{HasItem}
use Rattle.machine.specs.Machine as machine
use Rattle.commit.specs.Came.{IsParkedIn}
use Rattle.vault.specs.declared.error.VaultError.TheVariants.{Halted, NoMemory}
use Rattle.commit.specs.declared.error.CoreError.{CoreError}
use Rattle.commit.specs.declared.error.CoreError.TheVariants.{Store}
use Rattle.commit.specs.Calls.{GivesBack}
use Rattle.commit.specs.Core.{Core, graph, facts, state_of, is_halted}

-- how many instances are ready
abbrev pub ready_count : {D : Type 0} → Core D → ℕ
ready_count c = machine.ready_count c.machine

-- how many instances run, or the greatest number of 64 bits if they are more
abbrev pub running_count : {D : Type 0} → Core D → ℕ
running_count c = min (machine.running_count c.machine) (2 ^ 64 - 1)

-- `count` steps may be committed from now on, or as many as run now if these are more; nothing else has changed
abbrev pub Allows : {D : Type 0} → Core D → Core D → ℕ → Type 0
Allows old new count = new ≡ record old { allowance = max count (running_count old) }

-- the ready instance with this number may be claimed: there is one, the allowance is greater than the number that run, and the store has no fault
pub record MayClaim {D : Type 0} (c : Core D) (at : ℕ) : Type 0 where
  pub below : at < ready_count c
  pub allowed : running_count c < c.allowance
  pub working : HasNoFault (facts c)

-- one instance comes into a state, and nothing else has changed
pub record Moves {D : Type 0} (old new : Core D) (instance : Inst) (to : State) : Type 0 where
  pub machine : machine.Moves old.machine new.machine instance to
  pub vault : new.vault ≡ old.vault
  pub in_doubt : new.in_doubt ≡ old.in_doubt
  pub latest : new.latest ≡ old.latest
  pub allowance : new.allowance ≡ old.allowance

-- the instances that wait for an item that one of these puts puts are ready, and nothing else has changed
pub record Wakes {D : Type 0} (old new : Core D) (puts : List Put) : Type 0 where
  pub machine : machine.WakesFor old.machine new.machine puts
  pub vault : new.vault ≡ old.vault
  pub in_doubt : new.in_doubt ≡ old.in_doubt
  pub latest : new.latest ≡ old.latest
  pub allowance : new.allowance ≡ old.allowance

-- if the item is there by now, the instance is ready; otherwise it waits
abbrev pub LooksAgain : {D : Type 0} → Core D → Core D → Inst → Addr → Type 0
LooksAgain old new instance address = (IsAbsent (facts old) address × Moves old new instance (Waiting address)) ⊎ (HasItem (facts old) address × Moves old new instance Ready)

-- the core is halted, and returns `Halted`; nothing has changed
pub record IsHalted {D T : Type 0} (old new : Core D) (result : Result T CoreError) : Type 0 where
  pub halted : is_halted old ≡ true
  pub told : IsErrOf result (Store Halted)
  pub same : new ≡ old

-- What a park requires of its result: it is of this instance and of the body of its step, and the items that it read are items here.
abbrev pub IsParkedOf : {D : Type 0} → Core D → Inst → Asking → Type 0
IsParkedOf c instance parked = IsParkedIn (graph c) (facts c) instance parked

-- Why a park is refused: the core is halted; or memory was refused, and the item is not there. The instance is ready, and nothing else has
-- changed.
pub record RefusesPark {D T : Type 0} (old new : Core D) (address : Addr) (result : Result T CoreError) : Type 0 where
  pub halted : is_halted old ≡ true → IsErrOf result (Store Halted)
  pub causes : IfErr result (λ error. ((is_halted old ≡ true) × (error ≡ Store Halted)) ⊎ ((is_halted old ≡ false) × IsAbsent (facts old) address × (error ≡ Store NoMemory)))
  pub vault : new.vault ≡ old.vault
  pub in_doubt : new.in_doubt ≡ old.in_doubt

-- ---- the calls

-- the allowance is set, unless the core is halted
pub record SetsAllowance {D T : Type 0} (old new : Core D) (count : ℕ) (result : Result T CoreError) : Type 0 where
  pub ok : OnOk result ((is_halted old ≡ false) × Allows old new count)
  pub err : OnErr result (IsHalted old new result)

-- A ready instance runs, if the one with this number may be claimed; otherwise nothing changes.
pub record Claims {D : Type 0} (old new : Core D) (at : ℕ) (result : Result (Option Inst) CoreError) : Type 0 where
  pub some : IfOk result (λ claimed. MayClaim old at → IsSome claimed)
  pub claimed : IfOk result (λ claimed. IfSome claimed (λ task. MayClaim old at × (state_of old task ≡ Some Ready) × Moves old new task Running))
  pub none : IfOk result (λ claimed. (is_halted old ≡ false) × (claimed ≡ None → new ≡ old))
  pub err : OnErr result (IsHalted old new result)

-- Ready instances are handed out as tickets, under numbers that were not drawn before, and nothing else changes; it is said whether the last number was drawn. At an error no
-- ticket is added: the core is halted, or memory was refused.
pub record TakesTickets {D : Type 0} (old new : Core D) (before after : ℕ) (had has : List Ticket) (result : Result Bool CoreError) : Type 0 where
  pub same : new ≡ old
  pub ok : IfOk result (λ over. (is_halted old ≡ false) × HandsOut old.machine.memory.instances before after had has × ((over ≡ true) ↔ (after ≡ 2 ^ 64)))
  pub none : OnErr result ((after ≡ before) × (has ≡ had))
  pub err : IfErr result (λ error. ((is_halted old ≡ true) × (error ≡ Store Halted)) ⊎ ((is_halted old ≡ false) × (error ≡ Store NoMemory)))

-- The instance of a ticket runs, if one may be claimed and the ticket stands for it. Otherwise nothing changes, and the ticket is spent, or comes back where the allowance is used up.
pub record ClaimsBy {D : Type 0} (old new : Core D) (ticket : Ticket) (result : Result (Result (Option Inst) Ticket) CoreError) : Type 0 where
  pub inst : IfOk result (λ answer. IfOk answer (λ claimed. IfSome claimed (λ task. task ≡ ticket.inst)))
  pub claimed : IfOk result (λ answer. IfOk answer (λ claimed. IfSome claimed (λ task. MayClaim old 0 × (state_of old task ≡ Some Ready) × Moves old new task Running)))
  pub none : IfOk result (λ answer. (is_halted old ≡ false) × (answer ≡ Ok None → new ≡ old))
  pub back : IfOk result (λ answer. IfErr answer (λ back. (back ≡ ticket) × (old.allowance ≤ running_count old) × (new ≡ old)))
  pub err : OnErr result (IsHalted old new result)

-- The instance waits, or is ready if the item is there by now; if the park is refused, it is ready.
pub record Parks {D T : Type 0} (old new : Core D) (task : Inst) (address : Addr) (result : Result T CoreError) : Type 0 where
  pub ok : OnOk result ((is_halted old ≡ false) × LooksAgain old new task address)
  pub err : OnErr result (GivesBack old new task)
  pub refused : RefusesPark old new address result
