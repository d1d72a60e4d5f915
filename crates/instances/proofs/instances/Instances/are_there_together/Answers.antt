use Rattle.std.proofs.Common.{subst}
use Rattle.instances.specs.There.{AreThereTogether}
use Rattle.instances.proofs.Together.{are_there}
use Rattle.instances.proofs.instances.Instances.are_there_together.Goals as goal

pub returns : goal.returns
returns c = subst AreThereTogether c.self.view_is (are_there c.self.inside.tags c.self.inside.steps.items c.self.invariant.1)
