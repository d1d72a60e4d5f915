use Rattle.std.proofs.Common.{List, IfOk, subst}
use Rattle.passes.specs.Known.{Known, Made}
use Rattle.hub.specs.Kept.{HasRun}
use Rattle.hub.specs.Whole.{IsWhole}
use Rattle.hub.proofs.close.NotClosed.again.Goals as goal

pub returns-clause-whole : goal.returns-clause-whole
returns-clause-whole g c =
    subst (λ (at : List Known × List Known). IfOk c.close.result (λ core. (history : List Made) × IsWhole (HasRun g.D.Disk g.J.Naming.opening g.J.Naming.left g.J.Naming.envs) g.J.Naming.opening at.0 at.1 core history))
    (λ i. (c.into_parts-hub.ensures.1 i, c.into_parts-hub.ensures.2 i)) c.close.ensures.whole
