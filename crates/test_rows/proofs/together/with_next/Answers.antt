use Rattle.test_rows.proofs.Kept.{claimed}
use Rattle.test_rows.proofs.together.with_next.Goals as goal

pub with_end-requires-clause-kept : goal.with_end-requires-clause-kept
with_end-requires-clause-kept c =
    claimed c.orders_are_total.ensures.instances c.orders_are_total.ensures.instances_tie c.args.core.now c.claim.new.self 0 c.in-Ok-Some.field-0 c.in-Ok-Some.task c.args.kept c.in-Ok-Some.field-0-is c.in-Ok-Some.ensures.claimed c.requires.kept
