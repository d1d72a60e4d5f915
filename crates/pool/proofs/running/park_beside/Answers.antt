use Rattle.pool.proofs.Hands.{hand_stays}
use Rattle.pool.proofs.Kept.{kept_stay}
use Rattle.pool.proofs.running.park_beside.Goals as goal

pub ends-requires-clause-kept : goal.ends-requires-clause-kept
ends-requires-clause-kept g c = kept_stay c.facts_are_told_apart.ensures.among c.facts_go_on.ensures.all c.results_are_meant.ensures.stay g.J.Naming.opening c.args.pass.now c.park.new.pass c.args.kept c.park.ensures.ahead c.requires.kept

pub commit_kept-requires : goal.commit_kept-requires
commit_kept-requires g c = kept_stay c.facts_are_told_apart.ensures.among c.facts_go_on.ensures.all c.results_are_meant.ensures.stay g.J.Naming.opening c.args.pass.now c.park.new.pass c.args.kept c.park.ensures.ahead c.requires.kept

pub returns-else-is_due-clause-turned : goal.returns-else-is_due-clause-turned
returns-else-is_due-clause-turned g c = kept_stay c.facts_are_told_apart.ensures.among c.facts_go_on.ensures.all c.results_are_meant.ensures.stay g.J.Naming.opening c.args.pass.now c.park.new.pass c.args.kept c.park.ensures.ahead c.requires.kept

pub returns-then-is_due-clause-hand : goal.returns-then-is_due-clause-hand
returns-then-is_due-clause-hand g c = hand_stays g.J.Naming.opening c.park.new.pass.seen c.commit_kept.new.pass.seen _ _ c.commit_kept.ensures.ahead c.park.ensures.hand

pub returns-in-Some-clause-hand : goal.returns-in-Some-clause-hand
returns-in-Some-clause-hand g c = hand_stays g.J.Naming.opening c.park.new.pass.seen c.ends.new.pass.seen _ _ c.ends.ensures.ahead c.park.ensures.hand
