use Rattle.std.proofs.Common.{Option, subst, sym}
use Rattle.commit.specs.Batch.{Batch, facts_with}
use Rattle.commit.specs.Came.{IsOutcomeIn}
use Rattle.hub.specs.Opening.{facts_behind}
use Rattle.pool.specs.Worked.{AreKept, IsTurned}
use Rattle.pool.proofs.Hands.{hand_stays}
use Rattle.pool.proofs.Kept.{added, turned}
use Rattle.pool.proofs.running.keep.Goals as goal

pub go_on_with-requires-in-Ok-add-clause-batch : goal.go_on_with-requires-in-Ok-add-clause-batch
go_on_with-requires-in-Ok-add-clause-batch g c =
    added c.facts_are_told_apart.ensures.among c.results_are_meant.ensures.stay g.J.Naming.opening c.args.pass.now c.in-Some.batch c.add.new.self c.args.task c.args.outcome c.in-Ok-add.ensures.ok.0 c.in-Ok-add.ensures.ok.1
    (subst (AreKept g.J.Naming.opening c.args.pass.now) c.in-Some.is c.requires.kept).outcomes
    (subst (λ (o : Option Batch). IsOutcomeIn g.J.Naming.opening.graph (facts_with (facts_behind g.J.Naming.opening c.args.pass.now.seen) o) c.args.task c.args.outcome) c.in-Some.is c.requires.outcome)

pub returns-in-Err-clause-hand : goal.returns-in-Err-clause-hand
returns-in-Err-clause-hand g c = hand_stays g.J.Naming.opening c.args.pass.now.seen c.finish.new.pass.seen c.args.hand.now.claimed c.args.hand.now.waiting c.finish.ensures.ahead c.requires.hand

pub returns-in-Err-clause-turned : goal.returns-in-Err-clause-turned
returns-in-Err-clause-turned g c = subst (IsTurned g.J.Naming.opening c.finish.new.pass) (sym c.goes_on_unless.ensures) (turned g.J.Naming.opening c.finish.new.pass c.finish.result c.finish.ensures.full)

pub returns-in-Err-add-clause-hand : goal.returns-in-Err-add-clause-hand
returns-in-Err-add-clause-hand g c = hand_stays g.J.Naming.opening c.args.pass.now.seen c.finish_after.new.pass.seen c.args.hand.now.claimed c.args.hand.now.waiting c.finish_after.ensures.ahead c.requires.hand
