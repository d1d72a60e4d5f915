use Rattle.passes.proofs.Lists.{prefix_further}
use Rattle.pool.proofs.Hands.{hand_stays}
use Rattle.pool.proofs.Kept.{justified_further}
use Rattle.pool.proofs.resuming.wait_for_own.Goals as goal

pub returns-in-Err-clause-turned : goal.returns-in-Err-clause-turned
returns-in-Err-clause-turned g c = justified_further g.J.Naming.opening _ c.release-in-Err.new.pass _ c.release-in-Err.ensures.seen.0.starts c.in-Err.ensures.full

pub go_on_alone-requires-clause-hand : goal.go_on_alone-requires-clause-hand
go_on_alone-requires-clause-hand g c = hand_stays g.J.Naming.opening c.args.pass.now.seen c.commit_before.new.pass.seen _ _ c.commit_before.ensures.ahead c.requires.hand

pub returns-in-Ok-false-clause-hand : goal.returns-in-Ok-false-clause-hand
returns-in-Ok-false-clause-hand g c =
    hand_stays g.J.Naming.opening c.args.pass.now.seen c.release.new.pass.seen _ _ (prefix_further c.args.pass.now.seen c.commit_before.new.pass.seen c.release.new.pass.seen c.commit_before.ensures.ahead c.release.ensures.seen.0.starts) c.requires.hand

pub returns-in-Err-clause-hand : goal.returns-in-Err-clause-hand
returns-in-Err-clause-hand g c =
    hand_stays g.J.Naming.opening c.args.pass.now.seen c.release-in-Err.new.pass.seen _ _ (prefix_further c.args.pass.now.seen c.commit_before.new.pass.seen c.release-in-Err.new.pass.seen c.commit_before.ensures.ahead c.release-in-Err.ensures.seen.0.starts) c.requires.hand
