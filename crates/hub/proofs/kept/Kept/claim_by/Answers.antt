use Rattle.std.proofs.Common.{subst, sym}
use Rattle.passes.specs.Known.{Desk}
use Rattle.hub.specs.Kept.{HasRun, IsKept}
use Rattle.hub.proofs.Since.{ran_stays}
use Rattle.hub.proofs.Telling.{tells_nothing}
use Rattle.hub.proofs.Ticketed.{kept_claimed_by, may_run_by}
use Rattle.hub.proofs.kept.Kept.claim_by.Goals as goal

pub invariant_of-self : goal.invariant_of-self
invariant_of-self g c =
    let e = c.claim_by-claimed.ensures in
    subst (λ (d : Desk). IsKept (HasRun g.D.Disk g.J.Naming.opening g.J.Naming.left g.J.Naming.envs) g.J.Naming.opening g.J.Naming.passes d c.claim_by-claimed.new.self) (sym c.show.ensures.desk)
    (kept_claimed_by _ (ran_stays g.D.Disk g.J.Naming.opening g.J.Naming.left g.J.Naming.envs) _ _ _ _ _ c.args.ticket c.claim_by-claimed.result c.self.invariant (record { inst = e.inst; claimed = e.claimed; none = e.none; back = e.back; err = e.err }))

pub returns-clause-seen : goal.returns-clause-seen
returns-clause-seen g c = tells_nothing _ c.self.inside.desk.book.history _ _ c.self.invariant.legal c.show.ensures.pass

pub returns-clause-claimed : goal.returns-clause-claimed
returns-clause-claimed g c =
    let e = c.claim_by-claimed.ensures in
    may_run_by _ c.self.inside.desk.book.history c.args.pass.now c.show.new.pass c.self.inside.core c.claim_by-claimed.new.self c.args.ticket c.claim_by-claimed.result c.is_kept.ensures.machine c.self.invariant.behind c.show.ensures.pass
    (record { inst = e.inst; claimed = e.claimed; none = e.none; back = e.back; err = e.err })
