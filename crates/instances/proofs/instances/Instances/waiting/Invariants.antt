use Rattle.std.proofs.Common.{◌≡◌, ◌-◌, ◌^◌, min, take, sum_by}
use Rattle.instances.specs.OfStep.{is_waiting, how_many}
use Rattle.instances.specs.declared.step.Step.{Step}
use Rattle.instances.proofs.instances.Instances.waiting.Given as goal

abbrev pub invariant-loop-number : goal.invariant-loop-number
invariant-loop-number l = l.waiting ≡ min (sum_by (λ (step : Step). how_many is_waiting step.instances.states) (take l.number l.self.steps)) (2 ^ 64 - 1)
