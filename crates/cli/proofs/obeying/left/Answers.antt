use Rattle.std.proofs.Common.{arith}
use Rattle.std.proofs.lemmas.Bool.Decides.{nat_tests}
use Rattle.cli.proofs.Leaving.{stopped}
use Rattle.cli.proofs.obeying.left.Goals as goal

pub returns : goal.returns
returns g c = record {
  stopped = stopped c.args.core.now.machine c.fault.result c.is_some.result c.fault.ensures c.is_some.ensures;
  counts = c.counts-counts.result;
  are_counts = c.counts-counts.ensures;
  unfinished = (λ fewer. grind (arith, nat_tests, fewer), λ fewer. grind (arith, nat_tests, fewer));
}
