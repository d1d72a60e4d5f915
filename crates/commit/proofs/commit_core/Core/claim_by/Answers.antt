use Rattle.std.proofs.Common.{arith}
use Rattle.commit.specs.Doubt.{events_in}
use Rattle.commit.proofs.Allowed.{behind_claim}
use Rattle.commit.proofs.Moving.{SameFacts, of_claim}
use Rattle.commit.proofs.Taken.{kept_alike}
use Rattle.commit.proofs.commit_core.Core.claim_by.Goals as goal

pub invariant_of-self : goal.invariant_of-self
invariant_of-self g c =
    let same : SameFacts c.self.inside.machine c.claim_by.new.self = of_claim _ _ c.claim_by.result _ c.claim_by.ensures.claimed c.claim_by.ensures.none in (
      c.self.invariant.0,
      λ honest.
          kept_alike g.D.Disk (g.met.D.Disk.at_now honest) c.self.inside.vault c.self.inside.machine c.claim_by.new.self (events_in c.self.inside.in_doubt) (events_in c.self.inside.latest) c.self.inside.allowance c.self.inside.allowance
          same.graph same.environment same.facts (c.self.invariant.1 honest),
      behind_claim c.self.inside.machine c.claim_by.new.self c.claim_by.result _ c.self.inside.allowance c.claim_by.ensures.claimed c.claim_by.ensures.none (omega (arith, c.self.invariant.2, c.running.ensures)),
    )
