use Rattle.std.proofs.Common.{subst}
use Rattle.machine.proofs.DistinctCounted.{Tells, told_of}
use Rattle.machine.proofs.distinct.all_differ.Goals as goal

pub returns-clause-distinct : goal.returns-clause-distinct
returns-clause-distinct c =
    let answer = c.neighbours_differ.result in
    told_of answer c.args.addresses.now.items c.sort_unstable.new.self.items c.sort_unstable.ensures.permutation (subst (Tells answer) c.deref.ensures.value c.neighbours_differ.ensures)
