-- The invariant of a machine, in terms of the definitions of what a graph means.
use Rattle.std.specs.Prelude.{◌≡◌, ◌↔◌, ℕ, ℤ, ◌<◌, Bool, true, false, Some, is_some}
use Rattle.terms.specs.declared.name.Addr.{Addr}
use Rattle.terms.specs.declared.name.Inst.{Inst}
use Rattle.terms.specs.declared.producer.Producer.TheVariants.{By}
use Rattle.terms.specs.declared.put.TheConstants.{MOST_PUTS}
use Rattle.terms.specs.Facts.{item, done}
use Rattle.graph.specs.Graph.{IsGraph}
use Rattle.graph.specs.Fits.{IsPrescribed, FitsState, HasOneItemEach}
use Rattle.instances.specs.declared.state.State.{State}
use Rattle.instances.specs.declared.state.State.TheVariants.{Waiting, Done}
use Rattle.machine.specs.State.{Waits}
use Rattle.machine.specs.Machine.{Machine, facts, environment, how_many, state_of}

-- The facts fit the graph, with no two items at one address, and the number of a put is below the limit. Exactly the prescribed
-- instances have a state; exactly those that the facts have as done are in the state `Done`; one that waits needs the item, which is
-- not there; and a count is zero exactly if no instance is in such a state.
pub record IsKept (m : Machine) : Type 0 where
  pub graph : IsGraph m.graph
  pub fits : FitsState m.graph (environment m) (facts m)
  pub one_item : HasOneItemEach (facts m)
  pub prescribed : (instance : Inst) → (is_some (state_of m instance) ≡ true) ↔ IsPrescribed m.graph (facts m) instance
  pub done : (instance : Inst) → (state_of m instance ≡ Some Done) ↔ (facts m (done instance) ≡ true)
  pub counted : (test : State → Bool) → (how_many test m ≡ 0) ↔ ((instance : Inst) (state : State) → state_of m instance ≡ Some state → test state ≡ false)
  pub numbered : (address : Addr) (value : ℤ) (instance : Inst) (number : ℕ) → facts m (item address value (By instance number)) ≡ true → number < MOST_PUTS
  pub waits : (instance : Inst) (address : Addr) → state_of m instance ≡ Some (Waiting address) → Waits m.graph (facts m) instance address
