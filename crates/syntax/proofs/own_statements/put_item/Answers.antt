use Rattle.std.proofs.Common.{refl}
use Rattle.syntax.specs.Grammar.{put_item}
use Rattle.syntax.proofs.Moves.{◌⨟◌}
use Rattle.syntax.proofs.own_statements.put_item.Goals as goal

pub returns-clause-reads : goal.returns-clause-reads
returns-clause-reads c =
    let key = c.in_ok-key.ensures.reads in
    let value = c.in_ok-value.ensures.reads in
    record {
      put = put_item key.key value.expr;
      rest = _;
      spelled = refl;
      reads = key.reads ⨟ c.in_ok-sign.ensures.reads ⨟ value.reads ⨟ c.in_ok-sign-2.ensures.reads;
      is = (key.is, value.is);
      within = rw key.within value.within;
    }
