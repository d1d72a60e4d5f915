-- Waiting instances become ready.
use Rattle.std.specs.Prelude.{◌≡◌, ⊤, ℕ, Bool, false, cond, List, [], ◌∷◌, Option, Some}
use Rattle.std.specs.List.{list_any}
use Rattle.terms.specs.declared.name.Addr.{Addr}
use Rattle.terms.specs.declared.name.Inst.{Inst}
use Rattle.terms.specs.declared.name.TagCollection.{TagCollection}
use Rattle.items.specs.Once.{is_one_of}
use Rattle.instances.specs.declared.state.State.{State}
use Rattle.instances.specs.declared.state.State.TheVariants.{Ready}
use Rattle.instances.specs.OfStep.{IsWaiting, is_running}
use Rattle.instances.specs.Known.{Known, state_at, prescriber_at, room_for, total}
use Rattle.machine.specs.declared.memory.Memory.{Memory}
use Rattle.machine.specs.Memory.{AreListed, waits_at}

-- each of them waits, and appears in the list once
abbrev pub EachWaits : Known → List Inst → Type 0
EachWaits known [] = ⊤
EachWaits known (first ∷ others) = IsWaiting (state_at known first) × (is_one_of first others ≡ false) × EachWaits known others

-- the instances of the list become ready, and nothing else changes
pub record Wakes (old new : Known) (list : List Inst) : Type 0 where
  pub tags : new.tags ≡ old.tags
  pub states : (instance : Inst) → state_at new instance ≡ cond (is_one_of instance list) (Some Ready) (state_at old instance)
  pub prescribers : (number : ℕ) → prescriber_at new number ≡ prescriber_at old number
  pub running : total is_running new ≡ total is_running old
  pub room : (collection : TagCollection) → room_for new collection ≡ room_for old collection

-- whether the instance waits at one of these addresses
abbrev pub waits_among : List Addr → Option State → Bool
waits_among addresses state = list_any (λ address. waits_at address state) addresses

-- the state of an instance after those that wait at these addresses were woken
abbrev pub woken_among : List Addr → Option State → Option State
woken_among addresses state = cond (waits_among addresses state) (Some Ready) state

-- the instances that wait at these addresses are ready, and nothing else has changed
pub record Awakens (old new : Memory) (addresses : List Addr) : Type 0 where
  pub states : (instance : Inst) → state_at new.instances instance ≡ woken_among addresses (state_at old.instances instance)
  pub running : total is_running new.instances ≡ total is_running old.instances
  pub tags : new.instances.tags ≡ old.instances.tags
  pub prescribers : (number : ℕ) → prescriber_at new.instances number ≡ prescriber_at old.instances number
  pub room : (collection : TagCollection) → room_for new.instances collection ≡ room_for old.instances collection
  pub items : new.items.items ≡ old.items.items
  pub fault : new.fault ≡ old.fault
  pub listed : AreListed new
