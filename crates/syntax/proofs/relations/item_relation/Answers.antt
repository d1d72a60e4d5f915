use Rattle.std.proofs.Common.{◌∙◌}
use Rattle.syntax.proofs.Moves.{◌⨟◌}
use Rattle.syntax.proofs.Returned.{as_ok}
use Rattle.syntax.proofs.relations.item_relation.Goals as goal

pub returns-clause-reads : goal.returns-clause-reads
returns-clause-reads c = as_ok c.behind_item.result _ _ c.behind_item.ensures.reads (λ relation read. record {
  relation = read.relation;
  rest = _;
  spelled = read.spelled;
  reads = c.in_ok-item.ensures.reads ⨟ (c.in_ok-sign.ensures.reads ⨟ read.reads);
  is = read.is;
  within = read.within ∙ c.in_ok-item.ensures.within;
})
