use Rattle.std.proofs.Common.{arith}
use Rattle.hub.proofs.visit.Visit.claim_waiting.Goals as goal

pub returns-clause-claimed : goal.returns-clause-claimed
returns-clause-claimed g c =
    let adds = c.claim_some.ensures.core.0 in
    record { more = adds.more; added = adds.added; few = omega (arith, adds.few, c.min.ensures); may_run = adds.may_run }
