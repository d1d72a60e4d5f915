use Rattle.commit.proofs.Driven.{begins, driven_on}
use Rattle.commit.proofs.Joined.{goes_on}
use Rattle.commit.proofs.commit_core.Core.run_ends.Goals as goal

pub loop-error-init : goal.loop-error-init
loop-error-init g c = begins g.D.Disk c.facts_are_told_apart.ensures.among (λ on. (c.stores_go_on.ensures.gates on).stay) (λ on. (c.stores_go_on.ensures.rest on).commits) (λ on. (c.stores_go_on.ensures.gates on).rest) c.args.graph.now c.args.self.now c.requires.graph c.requires.idle c.requires.working (c.is_kept.ensures.settled c.requires.working) c.is_kept.ensures.kept

pub loop-error-preserved : goal.loop-error-preserved
loop-error-preserved g c =
    let it = c.in-Ok-true.ensures in
    driven_on g.D.Disk c.facts_are_told_apart.ensures.among (λ on. (c.stores_go_on.ensures.gates on).stay) (λ on. (c.stores_go_on.ensures.rest on).commits) (λ on. (c.stores_go_on.ensures.gates on).rest) c.args.graph.now c.args.self.now c.run_to_end.new.self c.requires.graph
    (goes_on g.D.Disk c.facts_are_told_apart.ensures.among (λ on. (c.stores_go_on.ensures.gates on).stay) c.args.self.now c.loop-error.self c.run_to_end.new.self c.loop-error.invariant.working c.loop-error.invariant.settled c.loop-error.invariant.runs it.runs)
    it.idle it.ok.0 it.ok.1

pub returns-in-Ok-false-clause-runs : goal.returns-in-Ok-false-clause-runs
returns-in-Ok-false-clause-runs g c =
    goes_on g.D.Disk c.facts_are_told_apart.ensures.among (λ on. (c.stores_go_on.ensures.gates on).stay) c.args.self.now c.loop-error.self c.run_to_end.new.self c.loop-error.invariant.working c.loop-error.invariant.settled c.loop-error.invariant.runs c.in-Ok-false.ensures.runs

pub returns-in-Err-clause-runs : goal.returns-in-Err-clause-runs
returns-in-Err-clause-runs g c =
    goes_on g.D.Disk c.facts_are_told_apart.ensures.among (λ on. (c.stores_go_on.ensures.gates on).stay) c.args.self.now c.loop-error.self c.run_to_end.new.self c.loop-error.invariant.working c.loop-error.invariant.settled c.loop-error.invariant.runs c.in-Err.ensures.runs
