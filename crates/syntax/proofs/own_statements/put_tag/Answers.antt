use Rattle.std.proofs.Common.{refl}
use Rattle.syntax.specs.Grammar.{put_tag}
use Rattle.syntax.proofs.Moves.{◌⨟◌}
use Rattle.syntax.proofs.own_statements.put_tag.Goals as goal

pub returns-clause-reads : goal.returns-clause-reads
returns-clause-reads c =
    let key = c.in_ok-key.ensures.reads in
    record { put = put_tag key.key; rest = _; spelled = refl; reads = key.reads ⨟ c.in_ok-sign.ensures.reads; is = key.is; within = key.within }
