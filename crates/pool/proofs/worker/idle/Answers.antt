use Rattle.pool.proofs.Hands.{hand_stays}
use Rattle.pool.proofs.worker.idle.Goals as goal

pub returns-else-not-busy-clause-hand : goal.returns-else-not-busy-clause-hand
returns-else-not-busy-clause-hand g c = hand_stays g.J.Naming.opening c.args.pass.now.seen c.look_for_work.new.pass.seen c.args.hand.now.claimed c.args.hand.now.waiting c.look_for_work.ensures c.requires.hand
