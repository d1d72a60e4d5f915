use Rattle.std.proofs.Common.{◌≡◌, ◌-◌, ◌^◌, min, take, sum_by}
use Rattle.instances.specs.OfStep.{is_done, how_many}
use Rattle.instances.specs.declared.step.Step.{Step}
use Rattle.instances.proofs.instances.Instances.done_count.Given as goal

abbrev pub invariant-loop-number : goal.invariant-loop-number
invariant-loop-number l = l.done ≡ min (sum_by (λ (step : Step). how_many is_done step.instances.states) (take l.number l.self.steps)) (2 ^ 64 - 1)
