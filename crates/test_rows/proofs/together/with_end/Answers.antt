use Rattle.instances.specs.declared.state.State.TheVariants.{Ready}
use Rattle.test_rows.proofs.Kept.{kept_moved}
use Rattle.test_rows.proofs.together.with_end.Goals as goal

pub returns-in_default-clause-kept : goal.returns-in_default-clause-kept
returns-in_default-clause-kept c =
    kept_moved c.orders_are_total.ensures.instances c.orders_are_total.ensures.instances_tie c.args.core.now c.release.new.self c.args.task Ready c.args.kept c.release.ensures c.requires.kept
