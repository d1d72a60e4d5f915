use Rattle.std.proofs.Common.{None, subst}
use Rattle.hub.specs.declared.running.Ran.{Ran}
use Rattle.hub.specs.Opening.{facts_behind}
use Rattle.hub.specs.Running.{RanIn}
use Rattle.passes.proofs.Lists.{prefix_further}
use Rattle.test_threads.proofs.Outcomes.{added}
use Rattle.test_threads.proofs.batches.with_own.Goals as goal

pub returns : goal.returns
returns g c =
    added c.facts_are_told_apart.ensures.among c.facts_go_on.ensures.all c.results_are_meant.ensures.stay g.J.Naming.opening c.args.runner.now c.run.new.pass c.args.batch c.add.new.self c.in-Ok-Some.task c.in-Ok-Ended.outcome
    (prefix_further c.args.runner.now.seen c.claim.new.pass.seen c.run.new.pass.seen c.claim.ensures.seen.0.starts c.run.ensures.pass.starts) c.in-Ok.ensures.ok.0 c.in-Ok.ensures.ok.1 c.requires
    (subst (λ (ran : Ran). RanIn g.J.Naming.opening.graph (facts_behind g.J.Naming.opening c.run.new.pass.seen) None c.in-Ok-Some.task ran) c.in-Ok-Ended.field-0-is c.in-Ok-Ended.ensures.came)
