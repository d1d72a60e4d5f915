-- How far a run is, and the outcome that is still to come.
use Rattle.std.specs.Prelude.{◌≡◌, ℕ, ℤ, List, ◌∷◌, ◌++◌}
use Rattle.terms.specs.declared.name.Addr.{Addr}
use Rattle.steptree.specs.declared.body.Body.{Body}
use Rattle.steptree.specs.Run.{Read, asks, assigned}
use Rattle.steptree.specs.Bodies.{outcome_of}
use Rattle.steplang.specs.declared.machine.Machine.{Machine}
use Rattle.steplang.specs.declared.run.Stage.{Stage}
use Rattle.steplang.specs.declared.run.Stage.TheVariants.{Ready, Waits, Over, Refused}
use Rattle.steplang.specs.Machine.{state_of, outcome_of_state, outcome_from}
use Rattle.steplang.specs.Running as running
use Rattle.steplang.specs.Running.{Awaits}

-- before the first statement: along any reads the body and the machine have the same outcome
abbrev pub IsStarted : Machine → Body → List ℤ → Type 0
IsStarted machine body key = (reads : List Read) → outcome_of body key reads ≡ outcome_from machine machine.progress reads

-- if it is ready: along any further reads the body and the machine have the same outcome
abbrev pub IsReady : Stage → Body → List ℤ → List Read → Machine → Type 0
IsReady stage body key reads machine = stage ≡ Ready → (more : List Read) → outcome_of body key (reads ++ more) ≡ outcome_from machine machine.progress more

-- while it waits for an item: along its reads the body asks for that item, and with its value body and machine have the same outcome
abbrev pub IsWaiting : Stage → Body → List ℤ → List Read → Machine → Type 0
IsWaiting stage body key reads machine = (address : Addr) (variable : ℕ) → stage ≡ Waits address variable → (outcome_of body key reads ≡ asks address)
    × ((value : ℤ) (more : List Read) → outcome_of body key (reads ++ (address, value) ∷ more) ≡ outcome_of_state machine machine.progress (assigned variable value (state_of machine machine.progress more)))

-- what a run waits for at this stage
abbrev pub awaits_of : Stage → Awaits
awaits_of Ready = running.Nothing
awaits_of (Waits address variable) = running.ValueOf address
awaits_of Over = running.Over
awaits_of Refused = running.Refused
