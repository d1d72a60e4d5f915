use Rattle.passes.proofs.Lists.{prefix_further}
use Rattle.pool.proofs.Hands.{hand_stays}
use Rattle.pool.proofs.hand.Hand.claim_next.Goals as goal

pub returns-in_err-task-clause-hand : goal.returns-in_err-task-clause-hand
returns-in_err-task-clause-hand g c = hand_stays g.J.Naming.opening c.args.pass.now.seen c.claim.new.pass.seen c.args.self.now.claimed c.args.self.now.waiting c.claim.ensures.ahead c.requires

pub returns-in-Some-clause-hand : goal.returns-in-Some-clause-hand
returns-in-Some-clause-hand g c = hand_stays g.J.Naming.opening c.args.pass.now.seen c.claim.new.pass.seen c.args.self.now.claimed c.args.self.now.waiting c.claim.ensures.ahead c.requires

pub returns-then-waits-clause-hand : goal.returns-then-waits-clause-hand
returns-then-waits-clause-hand g c =
    hand_stays g.J.Naming.opening c.args.pass.now.seen c.busy.new.pass.seen c.args.self.now.claimed c.args.self.now.waiting (prefix_further c.args.pass.now.seen c.claim.new.pass.seen c.busy.new.pass.seen c.claim.ensures.ahead c.busy.ensures.0.starts)
    c.requires

pub claim-requires-2 : goal.claim-requires-2
claim-requires-2 g c = hand_stays g.J.Naming.opening c.args.pass.now.seen c.claim.new.pass.seen c.args.self.now.claimed c.args.self.now.waiting c.claim.ensures.ahead c.requires
