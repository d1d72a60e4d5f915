use Rattle.passes.proofs.Lists.{prefix_further}
use Rattle.pool.proofs.Hands.{hand_stays}
use Rattle.pool.proofs.Kept.{kept_stay}
use Rattle.pool.proofs.worker.gives_up.Goals as goal

pub ends-requires-clause-kept : goal.ends-requires-clause-kept
ends-requires-clause-kept g c =
    kept_stay c.facts_are_told_apart.ensures.among c.facts_go_on.ensures.all c.results_are_meant.ensures.stay g.J.Naming.opening c.args.pass.now c.release.new.pass c.args.kept
    c.release.ensures.seen.0.starts c.requires.kept

pub returns-clause-hand : goal.returns-clause-hand
returns-clause-hand g c =
    hand_stays g.J.Naming.opening c.args.pass.now.seen c.ends.new.pass.seen _ _
    (prefix_further c.args.pass.now.seen c.release.new.pass.seen c.ends.new.pass.seen c.release.ensures.seen.0.starts c.ends.ensures.ahead) c.requires.hand
