use Rattle.pool.proofs.Teams.{nothing_done}
use Rattle.pool.proofs.driving.worked.Goals as goal

pub returns-in-Err-clause-works : goal.returns-in-Err-clause-works
returns-in-Err-clause-works g c =
    nothing_done g.D.Disk (λ on. (c.stores_go_on.ensures.rest on).commits) (λ on. (c.stores_go_on.ensures.gates on).rest) c.args.core c.memory.result.full c.requires.working
    (c.is_kept.ensures.settled c.requires.working) c.is_kept.ensures.kept c.memory.ensures.2
