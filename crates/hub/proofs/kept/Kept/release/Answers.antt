use Rattle.std.proofs.Common.{subst, sym}
use Rattle.passes.specs.Known.{Desk}
use Rattle.hub.specs.Kept.{HasRun, IsKept}
use Rattle.hub.proofs.Keeping.{kept_moved}
use Rattle.hub.proofs.Since.{ran_stays}
use Rattle.hub.proofs.Telling.{tells_nothing}
use Rattle.hub.proofs.kept.Kept.release.Goals as goal

pub returns-then-not-runs-clause-seen : goal.returns-then-not-runs-clause-seen
returns-then-not-runs-clause-seen g c = tells_nothing _ c.self.inside.desk.book.history _ _ c.self.invariant.legal c.show.ensures.pass

pub invariant_of-self-2 : goal.invariant_of-self-2
invariant_of-self-2 g c =
    subst (λ (d : Desk). IsKept (HasRun g.D.Disk g.J.Naming.opening g.J.Naming.left g.J.Naming.envs) g.J.Naming.opening g.J.Naming.passes d c.release.new.self) (sym c.show.ensures.desk) (kept_moved _ (ran_stays g.D.Disk g.J.Naming.opening g.J.Naming.left g.J.Naming.envs) _ _ _ _ _ _ _ c.self.invariant c.release.ensures)

pub returns-clause-seen : goal.returns-clause-seen
returns-clause-seen g c = tells_nothing _ c.self.inside.desk.book.history _ _ c.self.invariant.legal c.show.ensures.pass
