use Rattle.std.proofs.Common.{◌≡◌, ◌↔◌, subst, arith}
use Rattle.commit.specs.Core.{Core}
use Rattle.commit.specs.Runs.{NoneRuns}
use Rattle.commit.proofs.Counted.{none_runs}
use Rattle.commit.proofs.commit_core.Core.running.Goals as goal

pub returns-clause-none : goal.returns-clause-none
returns-clause-none g c =
    let counted = none_runs c.self.inside.machine c.are_counted.ensures in
    subst (λ (core : Core g.row.D.Denot). (c.running.result ≡ 0) ↔ NoneRuns core) c.self.view_is
    (λ is. counted.0 (omega (arith, is, c.running.ensures)), λ none. let here = counted.1 none in omega (arith, here, c.running.ensures))
