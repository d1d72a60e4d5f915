use Rattle.std.proofs.Common.{subst}
use Rattle.passes.specs.Known.{commits}
use Rattle.hub.specs.Opening.{IsBehind}
use Rattle.hub.specs.Kept.{Kept, CrashLeavesHistory}
use Rattle.hub.proofs.Keeping.{crash_leaves, crash_rests}
use Rattle.disk.specs.Time.{Contents, MayLeaveNow}
use Rattle.hub.proofs.kept.Kept.is_kept.Goals as goal

pub returns-clause-behind : goal.returns-clause-behind
returns-clause-behind g c = subst (λ (kept : Kept g.row.D.Denot). IsBehind g.J.Naming.opening (commits kept.history) kept.core) c.self.view_is c.self.invariant.behind

pub returns-clause-crash : goal.returns-clause-crash
returns-clause-crash g c honest fresh =
    subst (λ (kept : Kept g.row.D.Denot). CrashLeavesHistory g.D.Disk.files g.J.Naming.opening kept) c.self.view_is
    (crash_leaves g.D.Disk.files g.J.Naming.opening c.self.inside.desk.book.history c.self.inside.core c.self.invariant.behind (c.is_kept.ensures.kept honest) (λ turned. fresh (c.self.invariant.turned turned)))

pub returns-clause-rests : goal.returns-clause-rests
returns-clause-rests g c honest halted =
    subst (λ (kept : Kept g.row.D.Denot). (contents : Contents) → MayLeaveNow (g.D.Disk.files kept.core.vault.disk) contents → g.J.Naming.left g.J.Naming.opening.moment contents) c.self.view_is
    (crash_rests g.D.Disk g.J.Naming.opening g.J.Naming.left c.self.inside.core (λ contents may. (g.met.D.Disk.at_now honest c.self.inside.core.vault.disk contents).1 may) (c.self.invariant.ran.rests halted).1)
