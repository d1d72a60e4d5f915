use Rattle.std.proofs.Common.{sym, subst}
use Rattle.instances.proofs.Picked.{are_the_done, done_in}
use Rattle.instances.specs.Listed.{AreTheDone}
use Rattle.instances.proofs.instances.Instances.done_walk.Goals as goal

pub returns-clause-done : goal.returns-clause-done
returns-clause-done c = subst (λ all. AreTheDone c.args.self.now (done_in all)) (sym c.walk.ensures.walk) (are_the_done c.args.self.now)
