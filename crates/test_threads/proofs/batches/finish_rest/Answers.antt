use Rattle.std.proofs.Common.{Option, IfSome, subst}
use Rattle.commit.specs.Batch.{Batch}
use Rattle.terms.specs.Sets.{Facts}
use Rattle.hub.specs.Opening.{facts_behind}
use Rattle.test_threads.specs.Alone.{AreAlone}
use Rattle.test_threads.proofs.Outcomes.{popped}
use Rattle.test_threads.proofs.batches.finish_rest.Goals as goal

pub finish_alone-finished-requires-after_bounds : goal.finish_alone-finished-requires-after_bounds
finish_alone-finished-requires-after_bounds g c κs within =
    let X : Facts = facts_behind g.J.Naming.opening c.args.runner.now.seen in
    let others = (popped g.J.Naming.opening.graph X c.args.batch c.pop-again.result.0 c.pop-again.result.1 c.pop-again.result.2 c.pop-again.ensures c.requires).1 in
    let rest = subst (λ (o : Option Batch). IfSome o (λ batch. AreAlone g.J.Naming.opening.graph X batch.tasks batch.outcomes)) c.in-Some.is others in
    (popped g.J.Naming.opening.graph X c.in-Some.rest c.pop-own.result.0 c.pop-own.result.1 c.pop-own.result.2 c.pop-own.ensures rest).0
