use Rattle.passes.proofs.Lists.{prefix_further}
use Rattle.pool.proofs.Hands.{hand_with}
use Rattle.pool.proofs.Kept.{last_taken}
use Rattle.pool.proofs.hand.Hand.give_back.Goals as goal

pub loop-task-preserved : goal.loop-task-preserved
loop-task-preserved g c = (
  hand_with g.J.Naming.opening c.loop-task.pass.seen c.release.new.pass.seen c.loop-task.self.claimed c.take_last.new.self c.loop-task.self.waiting c.release.ensures.seen.0.starts c.loop-task.invariant.0
      (last_taken g.J.Naming.opening c.take_last.result c.loop-task.self.claimed c.take_last.new.self c.take_last.ensures c.loop-task.invariant.0.claimed).0,
  prefix_further c.args.pass.now.seen c.loop-task.pass.seen c.release.new.pass.seen c.loop-task.invariant.1 c.release.ensures.seen.0.starts,
)
