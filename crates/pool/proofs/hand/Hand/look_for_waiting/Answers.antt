use Rattle.passes.proofs.Lists.{prefix_further}
use Rattle.pool.proofs.Hands.{hand_with}
use Rattle.pool.proofs.Kept.{claimed_more}
use Rattle.pool.proofs.hand.Hand.look_for_waiting.Goals as goal

pub returns-in_err-claim_waiting-clause-hand : goal.returns-in_err-claim_waiting-clause-hand
returns-in_err-claim_waiting-clause-hand g c =
    hand_with g.J.Naming.opening c.loop-number.pass.seen c.claim_waiting.new.pass.seen c.loop-number.self.claimed c.claim_waiting.new.tasks c.loop-number.self.waiting c.claim_waiting.ensures.seen.0.starts c.loop-number.invariant.0
    (claimed_more g.J.Naming.opening c.claim_waiting.new.pass c.saturating_sub-left.result c.loop-number.self.claimed c.claim_waiting.new.tasks c.claim_waiting.ensures.claimed c.loop-number.invariant.0.claimed)

pub loop-number-preserved : goal.loop-number-preserved
loop-number-preserved g c = (
  hand_with g.J.Naming.opening c.loop-number.pass.seen c.claim_waiting.new.pass.seen c.loop-number.self.claimed c.claim_waiting.new.tasks c.loop-number.self.waiting c.claim_waiting.ensures.seen.0.starts c.loop-number.invariant.0
      (claimed_more g.J.Naming.opening c.claim_waiting.new.pass c.saturating_sub-left.result c.loop-number.self.claimed c.claim_waiting.new.tasks c.claim_waiting.ensures.claimed c.loop-number.invariant.0.claimed),
  prefix_further c.args.pass.now.seen c.loop-number.pass.seen c.claim_waiting.new.pass.seen c.loop-number.invariant.1 c.claim_waiting.ensures.seen.0.starts,
)
