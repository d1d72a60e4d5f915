use Rattle.std.proofs.Common.{◌≡◌, ◌-◌, ◌^◌, min, take, sum_by}
use Rattle.instances.specs.OfStep.{is_running, how_many}
use Rattle.instances.specs.declared.step.Step.{Step}
use Rattle.instances.proofs.instances.Instances.running.Given as goal

abbrev pub invariant-loop-number : goal.invariant-loop-number
invariant-loop-number l = l.running ≡ min (sum_by (λ (step : Step). how_many is_running step.instances.states) (take l.number l.self.steps)) (2 ^ 64 - 1)
