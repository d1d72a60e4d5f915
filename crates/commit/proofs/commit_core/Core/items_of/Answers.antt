use Rattle.std.proofs.Common.{subst}
use Rattle.machine.specs.Counts.{AreItemsOf}
use Rattle.commit.specs.Core.{Core, facts}
use Rattle.commit.proofs.commit_core.Core.items_of.Goals as goal

pub returns : goal.returns
returns g c = subst (λ (core : Core g.row.D.Denot). AreItemsOf (facts core) c.args.collection c.items_of.result) c.self.view_is c.items_of.ensures
