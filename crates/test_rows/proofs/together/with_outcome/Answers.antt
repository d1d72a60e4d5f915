use Rattle.std.proofs.Common.{sym, subst}
use Rattle.terms.specs.declared.name.Inst.{Inst}
use Rattle.instances.specs.declared.state.State.TheVariants.{Ready}
use Rattle.commit.specs.Batch.{Batch}
use Rattle.test_rows.specs.Apart.{AreOutcomesApart}
use Rattle.test_rows.proofs.Kept.{added, moved}
use Rattle.test_rows.proofs.together.with_outcome.Goals as goal

pub returns-then-len-eq-MOST_TOGETHER-clause-kept : goal.returns-then-len-eq-MOST_TOGETHER-clause-kept
returns-then-len-eq-MOST_TOGETHER-clause-kept c =
    moved c.orders_are_total.ensures.instances c.orders_are_total.ensures.instances_tie c.args.core.now c.release.new.self c.args.task Ready c.args.batch c.release.ensures c.requires.kept

pub returns-in-Ok-clause-kept : goal.returns-in-Ok-clause-kept
returns-in-Ok-clause-kept c =
    added c.facts_are_told_apart.ensures.among c.results_are_meant.ensures.stay c.orders_are_total.ensures.instances c.args.core.now c.args.batch c.add.new.self c.args.task c.args.outcome c.in-Ok.ensures.ok.0 c.in-Ok.ensures.ok.1 c.requires.running c.requires.outcome c.requires.kept

pub returns-clause-kept : goal.returns-clause-kept
returns-clause-kept c =
    let back = c.in-Err.ensures.back in
    moved c.orders_are_total.ensures.instances c.orders_are_total.ensures.instances_tie c.args.core.now c.release-in-Err.new.self c.in-Err.task Ready c.add.new.self c.release-in-Err.ensures
    (subst (λ (at : Inst × Batch). AreOutcomesApart c.args.core.now at.0 at.1) (λ i. (sym back.0 i, sym back.2 i)) c.requires.kept)
