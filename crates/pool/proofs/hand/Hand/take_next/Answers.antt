use Rattle.pool.proofs.Hands.{hand_with}
use Rattle.pool.proofs.Kept.{first_taken, last_taken}
use Rattle.passes.proofs.Lists.{prefix_self}
use Rattle.pool.proofs.hand.Hand.take_next.Goals as goal

pub returns-then-self-gt0-clause-hand : goal.returns-then-self-gt0-clause-hand
returns-then-self-gt0-clause-hand g c =
    hand_with g.J.Naming.opening c.args.pass.now.seen c.args.pass.now.seen c.args.self.now.claimed c.take_last.new.self c.args.self.now.waiting (prefix_self c.args.pass.now.seen) c.requires
    (last_taken g.J.Naming.opening c.take_last.result c.args.self.now.claimed c.take_last.new.self c.take_last.ensures c.requires.claimed).0

pub returns-then-self-gt0-clause-task : goal.returns-then-self-gt0-clause-task
returns-then-self-gt0-clause-task g c = (last_taken g.J.Naming.opening c.take_last.result c.args.self.now.claimed c.take_last.new.self c.take_last.ensures c.requires.claimed).1

pub returns-clause-hand : goal.returns-clause-hand
returns-clause-hand g c =
    hand_with g.J.Naming.opening c.args.pass.now.seen c.args.pass.now.seen c.args.self.now.claimed c.take_first.new.self c.args.self.now.waiting (prefix_self c.args.pass.now.seen) c.requires
    (first_taken g.J.Naming.opening c.take_first.result c.args.self.now.claimed c.take_first.new.self c.take_first.ensures c.requires.claimed).0
