use Rattle.instances.proofs.Order.{found, rises}
use Rattle.instances.proofs.instances.Instances.walk.Goals as goal

pub returns-in-Some-clause-rises : goal.returns-in-Some-clause-rises
returns-in-Some-clause-rises c = rises c.args.self.now

pub returns-in-Some-clause-states : goal.returns-in-Some-clause-states
returns-in-Some-clause-states c = found c.args.self.now
