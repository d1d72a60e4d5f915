use Rattle.std.proofs.Common.{refl}
use Rattle.syntax.specs.Grammar.{assigned}
use Rattle.syntax.specs.Parsed.{named_of}
use Rattle.syntax.proofs.StatementSteps.{assigned_is}
use Rattle.syntax.proofs.Moves.{◌⨟◌}
use Rattle.syntax.proofs.blocks.assigned.Goals as goal

pub returns-clause-reads : goal.returns-clause-reads
returns-clause-reads c =
    let value = c.in_ok-statement.ensures.reads in
    λ part around. record {
      statement = assigned (named_of c.in_ok-variable.variable) value.expr;
      reads = c.in_ok-variable.ensures.reads ⨟ value.reads;
      is = λ rest. (assigned_is c.in_ok-variable.variable value.expr c.in_ok-statement.statement value.is, refl);
      within = rw c.in_ok-variable.ensures.within value.within;
    }
