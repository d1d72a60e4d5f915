use Rattle.std.proofs.Common.{◌∙◌, ◌-◌, ◌^◌, ◌≤◌, ap, arith, length, min, sum_by, take_all}
use Rattle.instances.specs.OfStep.{is_done, how_many}
use Rattle.instances.specs.declared.step.Step.{Step}
use Rattle.instances.proofs.Lengths.{counts_done}
use Rattle.instances.proofs.instances.Instances.done_count.Goals as goal

pub returns : goal.returns
returns c =
    let steps = c.args.self.now.steps in
    let all : length steps ≤ c.loop-number.number = omega (arith, c.loop-number-test.false, c.len-number-end.ensures, c.self.inside.steps.ok.0, ap (λ known. length known.steps) c.self.view_is) in
    counts_done c.args.self.now c.loop-number.done (c.loop-number.invariant ∙ ap (λ n. min n (2 ^ 64 - 1)) (ap (sum_by (λ (step : Step). how_many is_done step.instances.states)) (take_all c.loop-number.number steps all)))
