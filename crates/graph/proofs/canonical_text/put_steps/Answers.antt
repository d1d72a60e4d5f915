use Rattle.graph.specs.Canonical.{step_text}
use Rattle.graph.proofs.Written.{goes_on, steps_left}
use Rattle.graph.proofs.canonical_text.put_steps.Goals as goal

pub loop-number-preserved : goal.loop-number-preserved
loop-number-preserved c =
    goes_on c.loop-number.text.items _ _ _ _ c.put_step_at.new.text.items c.in_ok-put_step_at.ensures (steps_left (step_text c.args.graph.now) c.args.graph.now.steps c.loop-number.number) c.loop-number.invariant
