use Rattle.pool.proofs.Hands.{hand_stays}
use Rattle.pool.proofs.committing.exchange.Goals as goal

pub claim_next-requires : goal.claim_next-requires
claim_next-requires g c = hand_stays g.J.Naming.opening c.args.pass.now.seen c.commit_with.new.pass.seen c.args.hand.now.claimed c.args.hand.now.waiting c.commit_with.ensures.ahead c.requires.hand

pub returns-clause-hand : goal.returns-clause-hand
returns-clause-hand g c = hand_stays g.J.Naming.opening c.args.pass.now.seen c.commit_with.new.pass.seen c.args.hand.now.claimed c.args.hand.now.waiting c.commit_with.ensures.ahead c.requires.hand
