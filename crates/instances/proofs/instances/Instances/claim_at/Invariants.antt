use Rattle.std.proofs.Common.{◌≡◌, ◌+◌, take, sum_by}
use Rattle.instances.specs.OfStep.{is_ready, how_many}
use Rattle.instances.specs.declared.step.Step.{Step}
use Rattle.instances.proofs.instances.Instances.claim_at.Given as goal

-- nothing has changed, and the number was lowered by the ready instances of the steps so far
abbrev pub invariant-loop-number : goal.invariant-loop-number
invariant-loop-number l =
    (l.self-inside ≡ l.initial.self-inside) × (l.left + sum_by (λ (step : Step). how_many is_ready step.instances.states) (take l.number l.self-inside.steps.items) ≡ l.at)
