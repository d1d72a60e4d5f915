use Rattle.commit.specs.Core.{Core}
use Rattle.hub.specs.Kept.{HasRun, IsKept}
use Rattle.std.proofs.Common.{◌∙◌, ◌+◌, subst, sym}
use Rattle.hub.proofs.Opened.{kept_opened}
use Rattle.hub.proofs.Since.{ran_nothing}
use Rattle.hub.proofs.hub.Hub.open.Goals as goal

pub invariant_of-new : goal.invariant_of-new
invariant_of-new g c =
    subst (λ (core : Core g.row.D.Denot). IsKept (HasRun g.D.Disk g.J.Naming.opening g.J.Naming.left g.J.Naming.envs) g.J.Naming.opening g.J.Naming.passes c.deal-2.new.desk core) (sym c.recall.ensures)
    (kept_opened g.D.Disk _ g.J.Naming.opening g.J.Naming.passes (c.envs-env_count.result + c.workers-worker_count.result) c.deal-2.new.desk c.args.core c.requires.opening_is
    ((λ i. c.envs-env_count.ensures i + c.workers-worker_count.ensures i) ∙ sym c.requires.passes_are) c.deal-2.ensures.desk
    (ran_nothing g.D.Disk g.J.Naming.opening g.J.Naming.left g.J.Naming.envs c.args.core (λ on. (c.stores_go_on.ensures.rest on).commits) (λ on. (c.stores_go_on.ensures.gates on).rest) c.is_kept.ensures.kept c.is_kept.ensures.settled c.requires.opening_is c.requires.left_is))
