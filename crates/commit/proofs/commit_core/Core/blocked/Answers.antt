use Rattle.std.proofs.Common.{subst}
use Rattle.machine.specs.Status.{AreUnfinished}
use Rattle.commit.specs.Core.{Core}
use Rattle.commit.proofs.commit_core.Core.blocked.Goals as goal

pub returns-in-Ok-clause-unfinished : goal.returns-in-Ok-clause-unfinished
returns-in-Ok-clause-unfinished g c = subst (λ (core : Core g.row.D.Denot). AreUnfinished core.machine c.in-Ok.list.items) c.self.view_is c.in-Ok.ensures.unfinished
