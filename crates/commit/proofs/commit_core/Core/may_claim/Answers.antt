use Rattle.std.proofs.Common.{◌∙◌, sym, subst}
use Rattle.std.proofs.lemmas.Bool.{false≢true}
use Rattle.graph.specs.Fits.{HasNoFault}
use Rattle.commit.specs.Core.{Core, facts}
use Rattle.commit.proofs.commit_core.Core.may_claim.Goals as goal

pub returns-in-Some : goal.returns-in-Some
returns-in-Some g c =
    let fault = c.in-Some.field-0 in
    let stopped = (c.fault.ensures fault.0 fault.1).1 c.in-Some.is in (
      λ claimable. absurd (false≢true claimable),
      λ may. let working = subst (λ (core : Core g.row.D.Denot). HasNoFault (facts core)) (sym c.self.view_is) may.1.working in absurd (false≢true (sym (working fault.0 fault.1) ∙ stopped)),
    )
