-- The number of instances that run is determined by which of them run.
use Rattle.std.specs.Prelude.{◌≡◌, ◌≢◌, ◌+◌, ◌≤◌, Some}
use Rattle.terms.specs.declared.name.Inst.{Inst}
use Rattle.instances.specs.declared.state.State.TheVariants.{Running}
use Rattle.instances.specs.Known.{Known, state_at, total}
use Rattle.instances.specs.OfStep.{is_running}

-- If each instance that runs now ran before, then no more run than before.
abbrev pub NoMoreRun : Type 0
NoMoreRun = (old new : Known) → ((instance : Inst) → state_at new instance ≡ Some Running → state_at old instance ≡ Some Running) → total is_running new ≤ total is_running old

-- If, in addition, one that ran before does not run now, then at least one fewer runs.
abbrev pub OneLessRuns : Type 0
OneLessRuns =
    (old new : Known) (ended : Inst) → state_at old ended ≡ Some Running →
    ((instance : Inst) → state_at new instance ≡ Some Running → (instance ≢ ended) × (state_at old instance ≡ Some Running)) →
    total is_running new + 1 ≤ total is_running old

-- If a given instance runs, then the number of those that run is at least 1.
abbrev pub OneRuns : Type 0
OneRuns = (known : Known) (instance : Inst) → state_at known instance ≡ Some Running → 1 ≤ total is_running known
