-- Moves of instances change no fact.
use Rattle.std.proofs.Common.{◌≡◌, inl, inr, ap, refl, List, Option, Some, None, IfSome}
use Rattle.terms.specs.declared.name.Addr.{Addr}
use Rattle.terms.specs.declared.name.Inst.{Inst}
use Rattle.terms.specs.declared.put.Put.{Put}
use Rattle.terms.specs.Facts.{Fact}
use Rattle.instances.specs.declared.state.State.{State}
use Rattle.instances.specs.declared.state.State.TheVariants.{Ready, Running, Waiting}
use Rattle.machine.specs.Machine.{Machine, LooksAgain, Moves, WakesFor, environment, facts, state_of}

-- the two machines have the same facts
pub record SameFacts (old new : Machine) : Type 0 where
  pub graph : new.graph ≡ old.graph
  pub environment : (fact : Fact) → environment new fact ≡ environment old fact
  pub facts : (fact : Fact) → facts new fact ≡ facts old fact

pub of_move : (old new : Machine) (instance : Inst) (to : State) → Moves old new instance to → SameFacts old new
of_move old new instance to moves = record { graph = moves.graph; environment = moves.environment; facts = moves.facts }

pub of_wake : (old new : Machine) (puts : List Put) → WakesFor old new puts → SameFacts old new
of_wake old new puts wakes = record { graph = wakes.graph; environment = wakes.environment; facts = wakes.facts }

pub of_equal : (old new : Machine) → new ≡ old → SameFacts old new
of_equal old new same =
    record { graph = ap (λ (m : Machine). m.graph) same; environment = λ fact. ap (λ m. environment m fact) same; facts = λ fact. ap (λ m. facts m fact) same }

pub of_claim : (old new : Machine) (result : Option Inst) (P : Inst → Type 0) → IfSome result (λ task. P task × (state_of old task ≡ Some Ready) × Moves old new task Running) → (result ≡ None → new ≡ old) → SameFacts old new
of_claim old new None P claimed none = of_equal old new (none refl)
of_claim old new (Some task) P claimed none = of_move old new task Running claimed.2

pub of_look : (old new : Machine) (instance : Inst) (address : Addr) → LooksAgain old new instance address → SameFacts old new
of_look old new instance address looks = elim looks [
  | inl waits ↦ of_move old new instance (Waiting address) waits.1
  | inr ready ↦ of_move old new instance Ready ready.1
]
