use Rattle.graph.proofs.PrescribedSteps.{one_added}
use Rattle.graph.proofs.prescriptions.add_step.Goals as goal

pub returns : goal.returns
returns c = one_added c.args.lists.now.items c.args.tag.0 c.index_mut.result.now c.push.new.self c.args.step c.requires c.index_mut.ensures.value c.in_ok-push.ensures.items
