use Rattle.session.proofs.OneLine.{by_verdict}
use Rattle.session.proofs.answers.ran.Goals as goal

pub returns : goal.returns
returns g c =
    let it = c.told.ensures in
    by_verdict g.D.Disk (λ on. (c.stores_go_on.ensures.rest on).commits) (λ on. (c.stores_go_on.ensures.gates on).rest) c.args.core.now c.is_kept.ensures.kept c.is_kept.ensures.settled c.args.verdict c.told.result it.exact it.tells it.cause it.stays
