-- If no instance is counted in a state, none is in it.
use Rattle.std.proofs.Common.{◌≡◌, ◌≢◌, ◌↔◌, false, Some, refl, sym, ap, ◌∙◌}
use Rattle.std.proofs.lemmas.Bool.{false≢true}
use Rattle.terms.specs.declared.name.Inst.{Inst}
use Rattle.instances.specs.declared.state.State.{State}
use Rattle.instances.specs.declared.state.State.TheVariants.{Ready, Running, Waiting, Done}
use Rattle.instances.specs.OfStep.{is_ready, is_running}
use Rattle.machine.specs.Machine.{Machine, ready_count, running_count, state_of}
use Rattle.machine.specs.Status.{AreCounted}

pub none_runs : (m : Machine) → AreCounted m → (running_count m ≡ 0) ↔ ((instance : Inst) → state_of m instance ≢ Some Running)
none_runs m counted = (λ none instance is. false≢true (sym ((counted is_running).0 none instance Running is)), λ never. (counted is_running).1 (λ instance state is. of state (λ runs. never instance (is ∙ ap Some runs))))
  where
    of : (state : State) → (state ≡ Running → ⊥) → is_running state ≡ false
    of Ready other = refl
    of Running other = absurd (other refl)
    of (Waiting address) other = refl
    of Done other = refl

pub none_is_ready : (m : Machine) → AreCounted m → ready_count m ≡ 0 → (instance : Inst) → state_of m instance ≢ Some Ready
none_is_ready m counted none instance is = false≢true (sym ((counted is_ready).0 none instance Ready is))
