use Rattle.pool.proofs.Hands.{hand_stays}
use Rattle.pool.proofs.Kept.{kept_stay}
use Rattle.pool.proofs.worker.give_way.Goals as goal

pub commit_kept-met-requires : goal.commit_kept-met-requires
commit_kept-met-requires g c =
    kept_stay c.facts_are_told_apart.ensures.among c.facts_go_on.ensures.all c.results_are_meant.ensures.stay g.J.Naming.opening c.args.pass.now c.leave.new.pass c.args.kept c.leave.ensures.ahead c.requires.kept

pub returns-clause-hand : goal.returns-clause-hand
returns-clause-hand g c =
    hand_stays g.J.Naming.opening c.leave.new.pass.seen c.commit_kept-met.new.pass.seen c.leave.new.self.claimed c.leave.new.self.waiting c.commit_kept-met.ensures.ahead c.leave.ensures.hand
