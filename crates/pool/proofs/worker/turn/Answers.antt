use Rattle.std.proofs.Common.{◌∙◌, Bool, ap, subst}
use mathlib.Core.List.{IsPrefix}
use Rattle.passes.specs.Known.{Known, heard_of}
use Rattle.passes.proofs.Lists.{prefix_further}
use Rattle.pool.proofs.Hands.{hand_stays, heard_ahead}
use Rattle.pool.proofs.Kept.{kept_stay}
use Rattle.pool.proofs.worker.turn.Goals as goal

pub run_task-requires-clause-kept : goal.run_task-requires-clause-kept
run_task-requires-clause-kept g c κs within =
    kept_stay c.facts_are_told_apart.ensures.among c.facts_go_on.ensures.all c.results_are_meant.ensures.stay g.J.Naming.opening c.args.pass.now c.next.new.pass c.args.kept
    (subst (λ (known : Known). IsPrefix known.seen c.next.new.pass.seen) (c.stop_asked.ensures.pass ∙ ap (λ (heard : Bool). heard_of heard c.args.pass.now) c.if-stop_asked.false) c.next.ensures.ahead) c.requires.kept

pub idle-requires-clause-kept : goal.idle-requires-clause-kept
idle-requires-clause-kept g c =
    kept_stay c.facts_are_told_apart.ensures.among c.facts_go_on.ensures.all c.results_are_meant.ensures.stay g.J.Naming.opening c.args.pass.now c.next.new.pass c.args.kept
    (subst (λ (known : Known). IsPrefix known.seen c.next.new.pass.seen) (c.stop_asked.ensures.pass ∙ ap (λ (heard : Bool). heard_of heard c.args.pass.now) c.if-stop_asked.false) c.next.ensures.ahead) c.requires.kept

pub ends-requires-clause-kept : goal.ends-requires-clause-kept
ends-requires-clause-kept g c =
    kept_stay c.facts_are_told_apart.ensures.among c.facts_go_on.ensures.all c.results_are_meant.ensures.stay g.J.Naming.opening c.args.pass.now c.next.new.pass c.args.kept
    (subst (λ (known : Known). IsPrefix known.seen c.next.new.pass.seen) (c.stop_asked.ensures.pass ∙ ap (λ (heard : Bool). heard_of heard c.args.pass.now) c.if-stop_asked.false) c.next.ensures.ahead) c.requires.kept

pub returns-then-stop_asked-clause-hand : goal.returns-then-stop_asked-clause-hand
returns-then-stop_asked-clause-hand g c =
    hand_stays g.J.Naming.opening c.args.pass.now.seen c.commit_kept.new.pass.seen _ _
    (prefix_further c.args.pass.now.seen c.stop_asked.new.pass.seen c.commit_kept.new.pass.seen (heard_ahead c.stop_asked.result c.args.pass.now c.stop_asked.new.pass c.stop_asked.ensures.pass) c.commit_kept.ensures.ahead) c.requires.hand

pub returns-in-Err-clause-hand : goal.returns-in-Err-clause-hand
returns-in-Err-clause-hand g c = hand_stays g.J.Naming.opening c.next.new.pass.seen c.ends.new.pass.seen _ _ c.ends.ensures.ahead c.next.ensures.hand
