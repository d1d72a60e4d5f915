use Rattle.graph.proofs.Written.{heading}
use Rattle.graph.proofs.canonical_text.steps.put_heading.Goals as goal

pub returns : goal.returns
returns c =
    heading (λ name. name.bytes.items) c.args.text.now.items c.put_head.new.text.items c.put_variables.new.text.items c.args.name.now c.args.names.now c.args.parameters c.in_ok-put_head.ensures c.in_ok-put_variables.ensures
