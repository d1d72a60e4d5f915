use Rattle.pool.proofs.Hands.{hand_stays}
use Rattle.pool.proofs.Kept.{kept_stay}
use Rattle.pool.proofs.running.run_task.Goals as goal

pub gives_up-requires-clause-kept : goal.gives_up-requires-clause-kept
gives_up-requires-clause-kept g c =
    kept_stay c.facts_are_told_apart.ensures.among c.facts_go_on.ensures.all c.results_are_meant.ensures.stay g.J.Naming.opening c.args.pass.now c.may_run.new.pass c.args.kept
    c.may_run.ensures.ahead c.requires.kept

pub go_on-requires-clause-kept : goal.go_on-requires-clause-kept
go_on-requires-clause-kept g c =
    kept_stay c.facts_are_told_apart.ensures.among c.facts_go_on.ensures.all c.results_are_meant.ensures.stay g.J.Naming.opening c.args.pass.now c.may_run.new.pass c.args.kept
    c.may_run.ensures.ahead c.requires.kept

pub begin-requires-clause-kept : goal.begin-requires-clause-kept
begin-requires-clause-kept g c =
    kept_stay c.facts_are_told_apart.ensures.among c.facts_go_on.ensures.all c.results_are_meant.ensures.stay g.J.Naming.opening c.args.pass.now c.may_run.new.pass c.args.kept
    c.may_run.ensures.ahead c.requires.kept

pub gives_up-requires-clause-hand : goal.gives_up-requires-clause-hand
gives_up-requires-clause-hand g c = hand_stays g.J.Naming.opening c.args.pass.now.seen c.may_run.new.pass.seen _ _ c.may_run.ensures.ahead c.requires.hand

pub take-requires : goal.take-requires
take-requires g c = (hand_stays g.J.Naming.opening c.args.pass.now.seen c.may_run.new.pass.seen _ _ c.may_run.ensures.ahead c.requires.hand).waiting
