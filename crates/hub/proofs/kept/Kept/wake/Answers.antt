use Rattle.std.proofs.Common.{IsTrue}
use Rattle.hub.proofs.Keeping.{kept_woken}
use Rattle.hub.proofs.Since.{ran_stays}
use Rattle.hub.proofs.kept.Kept.wake.Goals as goal

pub invariant_of-self : goal.invariant_of-self
invariant_of-self g c =
    kept_woken _ (ran_stays g.D.Disk g.J.Naming.opening g.J.Naming.left g.J.Naming.envs) _ _ _ _ _ _ c.self.invariant c.wake.ensures
