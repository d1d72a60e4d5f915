use Rattle.passes.proofs.Lists.{prefix_further}
use Rattle.pool.proofs.Hands.{hand_stays}
use Rattle.pool.proofs.Kept.{kept_stay}
use Rattle.pool.proofs.running.leave.Goals as goal

pub commit_kept-requires : goal.commit_kept-requires
commit_kept-requires g c =
    kept_stay c.facts_are_told_apart.ensures.among c.facts_go_on.ensures.all c.results_are_meant.ensures.stay g.J.Naming.opening c.args.pass.now c.release.new.pass c.args.kept
    (prefix_further c.args.pass.now.seen c.leave.new.pass.seen c.release.new.pass.seen c.leave.ensures.ahead c.release.ensures.seen.0.starts) c.requires.kept

pub returns-clause-hand : goal.returns-clause-hand
returns-clause-hand g c =
    hand_stays g.J.Naming.opening c.leave.new.pass.seen c.commit_kept.new.pass.seen c.leave.new.self.claimed c.leave.new.self.waiting
    (prefix_further c.leave.new.pass.seen c.release.new.pass.seen c.commit_kept.new.pass.seen c.release.ensures.seen.0.starts c.commit_kept.ensures.ahead) c.leave.ensures.hand
