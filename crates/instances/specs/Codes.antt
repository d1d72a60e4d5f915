-- How these values are written as numbers, pairs and lists: the checker asks for it, and no promise speaks of it.
use Rattle.std.specs.Prelude.{◌≡◌, ℕ, ℤ, List, Option, Some, None, refl}
use Rattle.std.specs.Coded.{Coded, code_by, coded_ℕ, coded_ℤ, coded_list, coded_option, coded×}
use Rattle.std.specs.FinMap.{code}
use Rattle.terms.specs.declared.name.Addr.{Addr}
use Rattle.instances.specs.declared.state.State.{State}
use Rattle.instances.specs.declared.state.State.TheVariants.{Ready, Running, Waiting, Done}
use Rattle.instances.specs.OfStep.{OfStep}

abbrev pub addr_code : Coded Addr
addr_code =
    code_by (ℕ × List ℤ) (coded× coded_ℕ (coded_list coded_ℤ)) (λ a. (a.collection.0, a.key))
    (λ p. record { collection = record { 0 = p.0 }; key = p.1 }) (λ _. refl)

abbrev pub in_state : State → Option (Option (Option Addr))
in_state Ready = None
in_state Running = Some None
in_state Done = Some (Some None)
in_state (Waiting address) = Some (Some (Some address))

abbrev pub state_of : Option (Option (Option Addr)) → State
state_of None = Ready
state_of (Some None) = Running
state_of (Some (Some None)) = Done
state_of (Some (Some (Some address))) = Waiting address

pub same_state : (state : State) → state_of (in_state state) ≡ state
same_state Ready = refl
same_state Running = refl
same_state Done = refl
same_state (Waiting address) = refl

abbrev pub state_code : Coded State
state_code = code_by (Option (Option (Option Addr))) (coded_option (coded_option (coded_option addr_code))) in_state state_of same_state

abbrev pub of_step_code : Coded OfStep
of_step_code =
    code_by _ (coded× (code (coded_list coded_ℤ) state_code) coded_ℕ) (λ s. (s.states, s.room)) (λ p. record { states = p.0; room = p.1 }) (λ _. refl)
