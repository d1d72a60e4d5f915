-- An instance while its code runs, seen as the outcome that is still to come.
use Rattle.std.specs.Prelude.{◌≡◌, ℕ, ◌+◌, ◌-◌, ◌*◌, ◌<◌, ◌≤◌, ℤ, List, [], ◌∷◌, length, reverse, Option, None, Some, IfOk, Result, Ok}
use Rattle.steptree.specs.declared.body.TheConstants.{BUDGET}
use Rattle.terms.specs.declared.fault.FaultKind.{FaultKind}
use Rattle.steptree.specs.declared.simple.Action.{Action}
use Rattle.steptree.specs.declared.simple.Action.TheVariants.{Puts}
use Rattle.steptree.specs.declared.code.Instruction.{Instruction}
use Rattle.steptree.specs.declared.code.Instruction.TheVariants as instruction
use Rattle.steptree.specs.declared.code.Loop.{Loop}
use Rattle.steptree.specs.Run.{Read, State, Outcome, ends, faults, asks, assigned, acting}
use Rattle.steptree.specs.Executed.{carried_out, executed}
use Rattle.steplang.specs.declared.machine.Step.{Step}
use Rattle.steplang.specs.declared.machine.Step.TheVariants.{On, Asked, Failed, Ended}
use Rattle.steplang.specs.declared.machine.Progress.{Progress}
use Rattle.steplang.specs.declared.machine.Machine.{Machine}

-- the state of the instance, if these reads are still to come
abbrev pub state_of : Machine → Progress → List Read → State
state_of machine progress reads = record { variables = machine.variables; counted = progress.counted; reads = reads; puts = machine.puts.items }

-- the innermost loop, and those around it from the inner to the outer; none is open if there is no innermost one
abbrev pub loops_of : Option Loop → List Loop → List Loop
loops_of None around = []
loops_of (Some innermost) around = innermost ∷ reverse around

-- the loops that are open, the innermost first
abbrev pub open_loops : Machine → List Loop
open_loops machine = loops_of machine.inner machine.around.items

-- what comes of a state at its place
abbrev pub outcome_of_state : Machine → Progress → State → Outcome
outcome_of_state machine progress state = executed (BUDGET - progress.counted) machine.code.now (open_loops machine) progress.at state

-- its outcome along these reads
abbrev pub outcome_from : Machine → Progress → List Read → Outcome
outcome_from machine progress reads = outcome_of_state machine progress (state_of machine progress reads)

-- what comes of an instruction that was counted
abbrev pub outcome_after : Instruction → Machine → Progress → List Read → Outcome
outcome_after one machine progress reads = carried_out (executed (BUDGET - progress.counted) machine.code.now) (open_loops machine) one (state_of machine progress reads)

-- what comes of what a counted statement does, after which the code goes on at `next`
abbrev pub outcome_of_action : Action → ℕ → Machine → Progress → List Read → Outcome
outcome_of_action action next machine progress reads = acting action (state_of machine progress reads) (executed (BUDGET - progress.counted) machine.code.now (open_loops machine) next)

-- it is a put, for which memory may be refused
abbrev pub IsPut : Result Action FaultKind → Type 0
IsPut (Ok (Puts one)) = Unit {0}
IsPut action = ⊥

-- the variable gets the value: for any reads, the outcome that is to come now is the one from the state in which it has it
abbrev pub GetsValue : ℕ → ℤ → Machine → Machine → Type 0
GetsValue variable value old new = (reads : List Read) → outcome_from new new.progress reads ≡ outcome_of_state old old.progress (assigned variable value (state_of old old.progress reads))

-- for any reads, the outcome `from` that was to come before a step is the outcome that comes after it
abbrev pub LeadsFrom : (List Read → Outcome) → Step → Machine → Progress → Type 0
LeadsFrom from On new progress = (reads : List Read) → from reads ≡ outcome_from new progress reads
LeadsFrom from (Asked variable) new progress = (from [] ≡ asks new.asked)
    × ((value : ℤ) (reads : List Read) → from ((new.asked, value) ∷ reads) ≡ outcome_of_state new progress (assigned variable value (state_of new progress reads)))
LeadsFrom from (Failed kind) new progress = (reads : List Read) → from reads ≡ faults kind reads
LeadsFrom from Ended new progress = (reads : List Read) → from reads ≡ ends (state_of new progress reads)

-- the step carries out an instruction that was counted
abbrev pub CarriesOut : Instruction → Machine → Progress → Machine → Progress → Step → Type 0
CarriesOut one old before new after step = LeadsFrom (outcome_after one old before) step new after

-- at `Ok` the step carries it out
abbrev pub Carries : {E : Type 0} → Instruction → Machine → Progress → Machine → Progress → Result Step E → Type 0
Carries one old before new after result = IfOk result (CarriesOut one old before new after)

-- an upper bound on the steps that are left: each statement counts one, and opens at most one loop
abbrev pub left_of : Machine → Progress → ℕ
left_of machine progress = 2 * (BUDGET - progress.counted) + length (open_loops machine)

-- if there is a next step, the bound is lower than before
abbrev pub Falls : Machine → Progress → Step → Machine → Progress → Type 0
Falls old before step new after = step ≡ On → left_of new after < left_of old before

-- if there is a next step, the bound is at most one higher than before: at most one more loop is open
abbrev pub OpensOne : Machine → Progress → Step → Machine → Progress → Type 0
OpensOne old before step new after = step ≡ On → left_of new after ≤ left_of old before + 1

-- an instruction that inner loops seldom have
abbrev pub IsRare : Instruction → Type 0
IsRare instruction.Turn = ⊥
IsRare (instruction.Assign variable value next) = ⊥
IsRare (instruction.Branch condition first second) = ⊥
IsRare instruction.End = Unit {0}
IsRare (instruction.For variable from to turn begin after) = Unit {0}
IsRare (instruction.Do statement next) = Unit {0}
