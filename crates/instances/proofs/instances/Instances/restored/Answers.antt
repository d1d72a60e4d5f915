use Rattle.instances.proofs.AllRestored.{are_prescribed, are_restored}
use Rattle.instances.proofs.instances.Instances.restored.Goals as goal

pub invariant_of-result : goal.invariant_of-result
invariant_of-result c = are_prescribed c.args.tags c.args.ended.now.items c.args.prescribers.now c.in_ok-steps.steps.items c.in_ok-steps.ensures c.requires

pub returns : goal.returns
returns c = are_restored c.args.tags c.args.ended.now.items c.args.prescribers.now c.in_ok-steps.steps.items c.in_ok-steps.ensures
