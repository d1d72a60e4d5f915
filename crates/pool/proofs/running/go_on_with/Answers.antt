use Rattle.pool.proofs.Hands.{hand_stays}
use Rattle.pool.proofs.running.go_on_with.Goals as goal

pub returns-then-is_due-clause-hand : goal.returns-then-is_due-clause-hand
returns-then-is_due-clause-hand g c = hand_stays g.J.Naming.opening c.args.pass.now.seen c.commit.new.pass.seen c.args.hand.now.claimed c.args.hand.now.waiting c.commit.ensures.ahead c.requires.hand
