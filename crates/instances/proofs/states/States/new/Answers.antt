use Rattle.instances.proofs.Joining.{seen_none}
use Rattle.instances.proofs.states.States.new.Goals as goal

pub returns : goal.returns
returns c = seen_none c.new.result c.new-2.result.entries c.new.ensures
