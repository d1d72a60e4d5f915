use Rattle.std.proofs.Common.{subst, OnOk, arith}
use Rattle.commit.proofs.Driven.{is_at, used_up}
use Rattle.commit.specs.Steps.{MayClaim}
use Rattle.commit.specs.declared.status.Status.TheVariants.{Working}
use Rattle.commit.proofs.commit_core.Core.verdict.Goals as goal

pub returns-in-Ok : goal.returns-in-Ok
returns-in-Ok g c limit count is =
    let told = is_at c.args.self.now _ Working c.in-Ok-Working.field-0-is c.in-Ok-Working.ensures.told in
    let never = subst (λ went. OnOk went (MayClaim c.args.self.now 0 → ⊥)) c.in-Ok.is c.requires.ok in
    let none = used_up c.args.self.now c.is_kept.ensures.machine.counted c.requires.idle told.0 told.1 never in
    ((c.in-Ok-Working.ensures.working, told, tt), omega (arith, is, none))
