use Rattle.std.proofs.Common.{◌∙◌, Ok, Option, Some, Result, ap, inr, refl, subst, sym}
use Rattle.terms.specs.declared.name.Inst.{Inst}
use Rattle.commit.specs.declared.error.CoreError.{CoreError}
use Rattle.commit.specs.Core.{Core}
use Rattle.commit.specs.Steps.{Claims}
use Rattle.hub.specs.Claims.{Starts}
use Rattle.hub.specs.Kept.{Kept}
use Rattle.hub.proofs.Claims.{started_by}
use Rattle.hub.proofs.Keeping.{kept_moved}
use Rattle.hub.proofs.Since.{ran_stays}
use Rattle.hub.proofs.kept.Kept.claim_one.Goals as goal

pub invariant_of-self : goal.invariant_of-self
invariant_of-self g c =
    kept_moved _ (ran_stays g.D.Disk g.J.Naming.opening g.J.Naming.left g.J.Naming.envs) _ _ _ _ _ _ _ c.self.invariant c.release.ensures

-- the instance started, and is ready again
pub returns-in-Err-add-clause-core : goal.returns-in-Err-add-clause-core
returns-in-Err-add-clause-core g c =
    let back = c.in-Err-add.ensures.back in
    let claims : Claims c.args.self.now.core c.claim.new.self.core 0 (Ok (Some c.in-Ok-Some.task)) =
    subst (λ (result : Result (Option Inst) CoreError). Claims c.args.self.now.core c.claim.new.self.core 0 result) (c.in-Ok-Some.is ∙ ap (λ (claimed : Option Inst). Ok claimed) c.in-Ok-Some.field-0-is) c.claim.ensures.core
    in
    let there : Starts c.args.self.now.core c.self.inside.core c.in-Ok-Some.task =
    subst (λ (core : Core g.row.D.Denot). Starts c.args.self.now.core core c.in-Ok-Some.task) (sym (ap (λ (kept : Kept g.row.D.Denot). kept.core) c.self.view_is)) (started_by c.args.self.now.core c.claim.new.self.core c.in-Ok-Some.task claims)
    in (
      back.1,
      inr (refl, (c.in-Err-add.task, c.self.inside.core, subst (λ (task : Inst). Starts c.args.self.now.core c.self.inside.core task) (sym back.0) there, c.release.ensures)),
    )
