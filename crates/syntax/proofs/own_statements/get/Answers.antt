use Rattle.std.proofs.Common.{refl}
use Rattle.syntax.specs.Parsed.{named_of}
use Rattle.syntax.proofs.Moves.{◌⨟◌}
use Rattle.syntax.proofs.own_statements.get.Goals as goal

pub returns-clause-reads : goal.returns-clause-reads
returns-clause-reads c =
    let key = c.in_ok-key.ensures.reads in
    record {
      get = record { variable = named_of c.in_ok-variable.variable; item = key.key };
      reads = c.in_ok-variable.ensures.reads ⨟ (c.in_ok-sign.ensures.reads ⨟ (c.in_ok-sign-2.ensures.reads ⨟ (key.reads ⨟ c.in_ok-sign-3.ensures.reads)));
      is = ((refl, refl), key.is);
      within = rw c.in_ok-variable.ensures.within key.within;
    }
