use Rattle.std.proofs.Common.{sym, subst, MatchBool}
use Rattle.graph.specs.Fits.{AreNew}
use Rattle.machine.specs.Legal.{Conflicts}
use Rattle.machine.specs.Machine.{Machine, facts}
use Rattle.machine.proofs.Absent.{conflict_there}
use Rattle.machine.proofs.machine.Machine.are_new.Goals as goal

pub returns-else-are_absent-clause-new : goal.returns-else-are_absent-clause-new
returns-else-are_absent-clause-new c =
    let puts = c.args.puts.now in
    subst (λ b. MatchBool b (AreNew (facts c.args.self.now) puts) (Conflicts (facts c.args.self.now) puts)) (sym c.if-are_absent.false)
    (subst (λ (m : Machine). Conflicts (facts m) puts) c.self.view_is (conflict_there c.facts_are_told_apart.ensures.one c.self.inside.memory puts c.if-are_absent.ensures))
