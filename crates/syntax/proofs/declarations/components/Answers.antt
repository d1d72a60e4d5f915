use Rattle.syntax.proofs.Moves.{◌⨟◌}
use Rattle.syntax.proofs.declarations.components.Goals as goal

pub returns-clause-reads : goal.returns-clause-reads
returns-clause-reads c =
    let named = c.in_ok-count.ensures.reads in
    record { names = named.names; reads = named.reads ⨟ c.in_ok-sign.ensures.reads ⨟ c.in_ok-sign-2.ensures.reads; counted = record { counted = named.counted; within = named.within } }
