use Rattle.graph.specs.Canonical.{step_relations}
use Rattle.graph.proofs.Written.{goes_on, steps_left}
use Rattle.graph.proofs.canonical_text.put_all_relations.Goals as goal

pub loop-number-preserved : goal.loop-number-preserved
loop-number-preserved c =
    goes_on c.loop-number.text.items _ _ _ _ c.put_relations_at.new.text.items c.in_ok-put_relations_at.ensures (steps_left (step_relations c.args.graph.now) c.args.graph.now.steps c.loop-number.number) c.loop-number.invariant
