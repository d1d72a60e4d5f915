use Rattle.std.proofs.Common.{◌≡◌, ◌<◌, ◌++◌, ◌∷◌, [], length, sym, subst, arith, rules}
use Rattle.syntax.specs.Parsed.{left, Stops}
use Rattle.syntax.specs.Steps.{step_expected, IsStepRead, StepsSoFar}
use Rattle.syntax.proofs.Fewer.{step_fewer}
use Rattle.syntax.proofs.StepParts.{no_steps, next_step, step_stops, all_steps}
use Rattle.syntax.proofs.Stopping.{passed_on}
use Rattle.syntax.proofs.steps.steps.Goals as goal

pub loop-cursor-init : goal.loop-cursor-init
loop-cursor-init c = let start = left c.args.cursor.now in subst (StepsSoFar start start) (sym c.new-steps.ensures.items) (no_steps start)

pub returns-in_err-step-clause-stops : goal.returns-in_err-step-clause-stops
returns-in_err-step-clause-stops c =
    let so_far = c.loop-cursor in
    let counted : c.len.result ≡ length so_far.steps.items = search rules in
    passed_on c.from_residual.result c.in_err-step.field-0.0 _ c.from_residual.ensures.1
    (step_stops (left c.args.cursor.now) (left so_far.cursor) (left c.takes_word.new.self) (left c.step.new.cursor) so_far.steps.items c.in_err-step.field-0.0 so_far.invariant c.loop-cursor-test.ensures.taken
    (subst (λ count. Stops (step_expected count) (left c.takes_word.new.self) (left c.step.new.cursor) c.in_err-step.field-0.0) counted c.in_err-step.ensures.stops))

pub loop-cursor-preserved : goal.loop-cursor-preserved
loop-cursor-preserved c =
    let so_far = c.loop-cursor in
    let counted : c.len.result ≡ length so_far.steps.items = search rules in
    let pushed : c.push_reserved.new.self.items ≡ so_far.steps.items ++ c.in_ok-step.step ∷ [] = search rules in
    subst (StepsSoFar (left c.args.cursor.now) (left c.step.new.cursor)) (sym pushed)
    (next_step (left c.args.cursor.now) (left so_far.cursor) (left c.takes_word.new.self) (left c.step.new.cursor) so_far.steps.items c.in_ok-step.step so_far.invariant c.loop-cursor-test.ensures.taken
    (subst (λ count. IsStepRead count c.in_ok-step.step (left c.takes_word.new.self) (left c.step.new.cursor)) counted c.in_ok-step.ensures.reads))

pub returns-clause-reads : goal.returns-clause-reads
returns-clause-reads c =
    all_steps (left c.args.cursor.now) (left c.loop-cursor.cursor) (left c.takes_word.new.self) c.loop-cursor.steps.items c.loop-cursor.invariant c.loop-cursor-test.ensures.taken

pub loop-cursor-smaller : goal.loop-cursor-smaller
loop-cursor-smaller c =
    let step = step_fewer c.in_ok-step.ensures.reads in
    let word = c.loop-cursor-test.ensures.fewer in
    let less : length (left c.step.new.cursor) < length (left c.loop-cursor.cursor) = omega (arith, step, word) in less
