use Rattle.std.proofs.Common.{subst, sym}
use Rattle.passes.specs.Known.{Desk}
use Rattle.hub.specs.Kept.{HasRun, IsKept}
use Rattle.hub.proofs.Keeping.{kept_on, kept_parked}
use Rattle.hub.proofs.Since.{ran_stays}
use Rattle.hub.proofs.Telling.{tells_nothing, parked_there, refuses_wait}
use Rattle.hub.proofs.kept.Kept.park.Goals as goal

pub returns-then-not-runs-clause-seen : goal.returns-then-not-runs-clause-seen
returns-then-not-runs-clause-seen g c = tells_nothing _ c.self.inside.desk.book.history _ _ c.self.invariant.legal c.show.ensures.pass

pub park-requires-clause-result : goal.park-requires-clause-result
park-requires-clause-result g c =
    parked_there c.facts_are_told_apart.ensures.among c.facts_go_on.ensures.all c.results_are_meant.ensures.stay g.J.Naming.opening c.self.inside.desk.book.history c.args.pass.now c.self.inside.core c.args.task c.args.parked.now
    c.self.invariant.behind c.show.ensures.pass.before c.requires

pub invariant_of-self-in-Err : goal.invariant_of-self-in-Err
invariant_of-self-in-Err g c =
    let e = c.in-Err.ensures in
    subst (λ (d : Desk). IsKept (HasRun g.D.Disk g.J.Naming.opening g.J.Naming.left g.J.Naming.envs) g.J.Naming.opening g.J.Naming.passes d c.park.new.self) (sym c.show.ensures.desk) (kept_on _ (ran_stays g.D.Disk g.J.Naming.opening g.J.Naming.left g.J.Naming.envs) _ _ _ _ _ c.self.invariant e.err.stays e.refused.vault e.refused.in_doubt)

pub returns-in-Err-clause-seen : goal.returns-in-Err-clause-seen
returns-in-Err-clause-seen g c = tells_nothing _ c.self.inside.desk.book.history _ _ c.self.invariant.legal c.show.ensures.pass

pub returns-in-Err-clause-refused : goal.returns-in-Err-clause-refused
returns-in-Err-clause-refused g c =
    refuses_wait g.J.Naming.opening c.self.inside.desk.book.history c.args.pass.now c.show.new.pass c.self.inside.core c.park.new.self c.args.parked.now.address c.in-Err.error c.self.invariant.behind c.show.ensures.pass c.in-Err.ensures.refused

pub invariant_of-self-2 : goal.invariant_of-self-2
invariant_of-self-2 g c =
    subst (λ (d : Desk). IsKept (HasRun g.D.Disk g.J.Naming.opening g.J.Naming.left g.J.Naming.envs) g.J.Naming.opening g.J.Naming.passes d c.park.new.self) (sym c.show.ensures.desk) (kept_parked _ (ran_stays g.D.Disk g.J.Naming.opening g.J.Naming.left g.J.Naming.envs) _ _ _ _ _ _ _ c.self.invariant c.in_default.ensures.ok.1)

pub returns-clause-seen : goal.returns-clause-seen
returns-clause-seen g c = tells_nothing _ c.self.inside.desk.book.history _ _ c.self.invariant.legal c.show.ensures.pass
