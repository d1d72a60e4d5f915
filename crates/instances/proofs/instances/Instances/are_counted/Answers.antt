use Rattle.instances.proofs.Quiet.{counted_none}
use Rattle.instances.proofs.instances.Instances.are_counted.Goals as goal

pub returns : goal.returns
returns c test = counted_none test c.args.self.now
