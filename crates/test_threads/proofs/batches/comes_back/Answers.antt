use Rattle.hub.specs.Opening.{facts_behind}
use Rattle.test_threads.proofs.Outcomes.{back_of, back_whole, have}
use Rattle.test_threads.proofs.batches.comes_back.Goals as goal

pub returns-in-Ok-tell : goal.returns-in-Ok-tell
returns-in-Ok-tell g c =
    back_whole c.facts_are_told_apart.ensures.among c.facts_go_on.ensures.all c.results_are_meant.ensures.stay g.J.Naming.opening c.args.runner.now c.finish_all.new.pass c.args.batch c.in-Err-Foreign.batch c.finish_all.ensures.seen.starts
    (back_of c.args.batch c.in-Err-Foreign.batch c.in-Err-Foreign.field-0 _ c.in-Err-Foreign.field-0-is c.in-Err-Foreign.ensures.refused) c.requires

pub finish_all-requires : goal.finish_all-requires
finish_all-requires g c = have c.results_are_meant.ensures.stay g.J.Naming.opening.graph (facts_behind g.J.Naming.opening c.args.runner.now.seen) c.args.batch.tasks c.args.batch.outcomes c.requires
