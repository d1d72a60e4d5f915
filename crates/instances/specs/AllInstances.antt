-- All instances of the steps, each with its state, in order.
use Rattle.std.specs.Prelude.{ℕ, suc, ℤ, List, [], ◌∷◌, ◌++◌, map}
use Rattle.std.specs.FinMap.{entries}
use Rattle.terms.specs.declared.name.Inst.{Inst}
use Rattle.instances.specs.declared.state.State.{State}
use Rattle.instances.specs.declared.step.Step.{Step}
use Rattle.instances.specs.Known.{Known, instance_at}

-- an entry of the step with this number, as an instance with its state
abbrev pub placed : ℕ → List ℤ × State → Inst × State
placed number entry = (instance_at number entry.0, entry.1)

-- the instances of several steps with their states, by step and then by key; the first step has this number
abbrev pub instances_from : ℕ → List Step → List (Inst × State)
instances_from number [] = []
instances_from number (step ∷ steps) = map (placed number) (entries step.instances.states) ++ instances_from (suc number) steps

-- what is left of a walk: these entries of the step with this number, and all entries of the steps after it
abbrev pub left_of : ℕ → List (List ℤ × State) → List Step → List (Inst × State)
left_of number entries steps = map (placed number) entries ++ instances_from (suc number) steps

-- all instances
abbrev pub all_instances : Known → List (Inst × State)
all_instances known = instances_from 0 known.steps
