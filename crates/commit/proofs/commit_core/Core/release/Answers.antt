use Rattle.std.proofs.Common.{refl}
use Rattle.instances.specs.declared.state.State.TheVariants.{Ready}
use Rattle.commit.specs.Doubt.{events_in}
use Rattle.commit.proofs.Allowed.{behind_move}
use Rattle.commit.proofs.Moving.{SameFacts, of_move}
use Rattle.commit.proofs.Taken.{kept_alike}
use Rattle.commit.proofs.commit_core.Core.release.Goals as goal

pub invariant_of-self : goal.invariant_of-self
invariant_of-self g c =
    let same : SameFacts c.self.inside.machine c.release.new.self = of_move _ _ _ _ c.release.ensures in (
      c.self.invariant.0,
      λ honest.
          kept_alike g.D.Disk (g.met.D.Disk.at_now honest) c.self.inside.vault c.self.inside.machine c.release.new.self (events_in c.self.inside.in_doubt) (events_in c.self.inside.latest) c.self.inside.allowance c.self.inside.allowance
          same.graph same.environment same.facts (c.self.invariant.1 honest),
      behind_move c.self.inside.machine c.release.new.self c.args.task Ready c.self.inside.allowance refl c.release.ensures c.self.invariant.2,
    )
