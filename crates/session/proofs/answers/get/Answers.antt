use Rattle.commit.proofs.GoingOn.{nothing_came}
use Rattle.session.proofs.answers.get.Goals as goal

pub returns-clause-goes_on : goal.returns-clause-goes_on
returns-clause-goes_on g c =
    nothing_came g.D.Disk (λ on. (c.stores_go_on.ensures.rest on).commits) (λ on. (c.stores_go_on.ensures.gates on).rest)
    c.args.core.now c.is_kept.ensures.kept c.is_kept.ensures.settled
