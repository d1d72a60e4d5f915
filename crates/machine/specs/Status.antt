-- What a store reports about itself: its fault, whether anything is left to do, and which instances wait for which items.
use Rattle.std.specs.Prelude.{◌≡◌, ◌↔◌, T, Bool, true, false, List, Option, Some}
use Rattle.std.specs.FinMap.{find, is_sorted}
use Rattle.terms.specs.Name.{inst_cmp}
use Rattle.terms.specs.declared.name.Addr.{Addr}
use Rattle.terms.specs.declared.name.Inst.{Inst}
use Rattle.terms.specs.declared.fault.FaultKind.{FaultKind}
use Rattle.terms.specs.Facts.{bad, done}
use Rattle.graph.specs.Fits.{HasNoFault, IsPrescribed}
use Rattle.instances.specs.declared.state.State.{State}
use Rattle.instances.specs.declared.state.State.TheVariants.{Ready, Running, Waiting}
use Rattle.machine.specs.Meaning.{IsClean}
use Rattle.machine.specs.State.{IsReached, IsMeaning, Waits, IsUnfinished}
use Rattle.machine.specs.Machine.{Machine, facts, environment, state_of, how_many}

-- the result is the instance at fault and the kind of its fault, if the store has a fault
abbrev pub TellsFault : Machine → Option (Inst × FaultKind) → Type 0
TellsFault m result = (instance : Inst) (kind : FaultKind) → (facts m (bad instance kind) ≡ true) ↔ (result ≡ Some (instance, kind))

-- no instance is ready, and none runs
abbrev pub NoneIsActive : Machine → Type 0
NoneIsActive m = (instance : Inst) → (state_of m instance ≡ Some Ready → ⊥) × (state_of m instance ≡ Some Running → ⊥)

-- if the facts are reached, they are the meaning of the graph on what the environment put, and that meaning is clean
abbrev pub IsAllOfMeaning : Machine → Type 0
IsAllOfMeaning m = IsReached m.graph (environment m) (facts m) → IsMeaning m.graph (environment m) (facts m) × IsClean m.graph (environment m)

-- The waiting instances, in order, each with the address of the item that it needs. If none is active, they are all that are
-- prescribed and not done.
pub record AreBlocked (m : Machine) (list : List (Inst × Addr)) : Type 0 where
  pub rises : T (is_sorted inst_cmp list)
  pub each : (instance : Inst) (address : Addr) → (find inst_cmp instance list ≡ Some address) ↔ (state_of m instance ≡ Some (Waiting address))
  pub waits : (instance : Inst) (address : Addr) → find inst_cmp instance list ≡ Some address → Waits m.graph (facts m) instance address
  pub all : NoneIsActive m → (instance : Inst) → IsPrescribed m.graph (facts m) instance → facts m (done instance) ≡ false → (address : Addr) × (find inst_cmp instance list ≡ Some address)

-- if nothing is left to do and the facts are reached, these are the instances that the meaning leaves unfinished, each with what it needs
abbrev pub AreUnfinished : Machine → List (Inst × Addr) → Type 0
AreUnfinished m list = HasNoFault (facts m) → NoneIsActive m → IsReached m.graph (environment m) (facts m)
    → (instance : Inst) (address : Addr) → (find inst_cmp instance list ≡ Some address) ↔ IsUnfinished m.graph (environment m) instance address

-- a count is zero exactly if each instance that has a state is in one that fails the test
abbrev pub AreCounted : Machine → Type 0
AreCounted m = (test : State → Bool) → (how_many test m ≡ 0) ↔ ((instance : Inst) (state : State) → state_of m instance ≡ Some state → test state ≡ false)
