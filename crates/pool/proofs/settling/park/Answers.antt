use Rattle.pool.proofs.Hands.{waiting_stay}
use Rattle.pool.proofs.settling.park.Goals as goal

pub keep-requires-clause-waiting : goal.keep-requires-clause-waiting
keep-requires-clause-waiting g c = waiting_stay g.J.Naming.opening c.args.pass.now.seen c.park.new.pass.seen c.park.ensures.seen.0.starts c.args.hand.now.waiting.places.items c.requires.hand.waiting
