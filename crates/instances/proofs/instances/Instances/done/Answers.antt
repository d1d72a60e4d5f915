use Rattle.std.proofs.Common.{ap}
use Rattle.instances.proofs.Picked.{are_the_done, listed_of, done_in}
use Rattle.instances.specs.Listed.{AreTheDone}
use Rattle.instances.proofs.instances.Instances.done.Goals as goal

pub returns : goal.returns
returns c = listed_of (λ list. list.items) (AreTheDone c.args.self.now) _ _ c.done.result c.done.ensures (ap done_in c.walk.ensures.walk) (are_the_done c.args.self.now)
