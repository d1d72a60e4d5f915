use Rattle.std.proofs.Common.{◌≡◌, subst, rules}
use Rattle.machine.proofs.DistinctCounted.{Tells}
use Rattle.graph.specs.Fits.{addresses}
use Rattle.machine.proofs.distinct.are_distinct.Goals as goal

pub returns-clause-distinct : goal.returns-clause-distinct
returns-clause-distinct c =
    let gathered : c.gather.new.addresses.items ≡ addresses c.args.puts.now = search rules in
    subst (Tells c.all_differ.result) gathered c.all_differ.ensures.distinct
