use Rattle.std.proofs.Common.{refl}
use Rattle.syntax.proofs.Moves.{◌⨟◌}
use Rattle.syntax.proofs.own_statements.assignment.Goals as goal

pub returns-clause-reads : goal.returns-clause-reads
returns-clause-reads c =
    let value = c.in_ok-value.ensures.reads in
    record { expr = value.expr; reads = c.in_ok-sign.ensures.reads ⨟ value.reads ⨟ c.in_ok-sign-2.ensures.reads; is = (refl, value.is); within = value.within }
