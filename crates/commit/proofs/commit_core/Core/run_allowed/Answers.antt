use Rattle.commit.proofs.Running.{as_it_was}
use Rattle.commit.proofs.commit_core.Core.run_allowed.Goals as goal

pub returns-in-Err-clause-runs : goal.returns-in-Err-clause-runs
returns-in-Err-clause-runs g c =
    as_it_was g.D.Disk (λ on. (c.stores_go_on.ensures.rest on).commits) (λ on. (c.stores_go_on.ensures.gates on).rest) c.args.self.now c.requires.working
    (c.is_kept.ensures.settled c.requires.working) c.is_kept.ensures.kept
