use Rattle.pool.proofs.Hands.{hand_with}
use Rattle.pool.proofs.Kept.{claimed_more}
use Rattle.pool.proofs.hand.Hand.claim_front.Goals as goal

pub returns-in-Ok-clause-hand : goal.returns-in-Ok-clause-hand
returns-in-Ok-clause-hand g c =
    hand_with g.J.Naming.opening c.args.pass.now.seen c.claim_some.new.pass.seen c.args.self.now.claimed c.claim_some.new.tasks c.args.self.now.waiting c.claim_some.ensures.seen.0.starts c.requires
    (claimed_more g.J.Naming.opening c.claim_some.new.pass 1 c.args.self.now.claimed c.claim_some.new.tasks c.claim_some.ensures.claimed c.requires.claimed)

pub returns-in-Err-clause-hand : goal.returns-in-Err-clause-hand
returns-in-Err-clause-hand g c =
    hand_with g.J.Naming.opening c.args.pass.now.seen c.claim_some.new.pass.seen c.args.self.now.claimed c.claim_some.new.tasks c.args.self.now.waiting c.claim_some.ensures.seen.0.starts c.requires
    (claimed_more g.J.Naming.opening c.claim_some.new.pass 1 c.args.self.now.claimed c.claim_some.new.tasks c.claim_some.ensures.claimed c.requires.claimed)
