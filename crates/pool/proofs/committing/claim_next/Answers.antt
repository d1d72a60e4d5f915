use Rattle.pool.proofs.Hands.{hand_with}
use Rattle.pool.proofs.Kept.{claimed_more}
use Rattle.pool.proofs.committing.claim_next.Goals as goal

pub returns : goal.returns
returns g c =
    hand_with g.J.Naming.opening c.args.pass.now.seen c.claim_some.new.pass.seen c.args.hand.now.claimed c.claim_some.new.tasks c.args.hand.now.waiting c.claim_some.ensures.seen.0.starts c.requires
    (claimed_more g.J.Naming.opening c.claim_some.new.pass _ c.args.hand.now.claimed c.claim_some.new.tasks c.claim_some.ensures.claimed c.requires.claimed)
