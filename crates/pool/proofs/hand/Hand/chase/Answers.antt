use Rattle.passes.proofs.Lists.{prefix_further}
use Rattle.pool.proofs.hand.Hand.chase.Goals as goal

pub returns-clause-ahead : goal.returns-clause-ahead
returns-clause-ahead g c = prefix_further c.args.pass.now.seen c.look_for_waiting.new.pass.seen c.claim_front.new.pass.seen c.look_for_waiting.ensures.ahead c.claim_front.ensures.ahead
