use Rattle.std.proofs.Common.{arith}
use Rattle.commit.specs.Doubt.{events_in}
use Rattle.commit.proofs.Taken.{kept_alike}
use Rattle.commit.proofs.commit_core.Core.release_all.Goals as goal

pub invariant_of-self : goal.invariant_of-self
invariant_of-self g c = (
  c.self.invariant.0,
  λ honest.
      kept_alike g.D.Disk (g.met.D.Disk.at_now honest) c.self.inside.vault c.self.inside.machine c.release_all.new.self (events_in c.self.inside.in_doubt) (events_in c.self.inside.latest) c.self.inside.allowance c.self.inside.allowance
      c.release_all.ensures.back.graph c.release_all.ensures.back.environment c.release_all.ensures.back.facts (c.self.invariant.1 honest),
  omega (arith, c.release_all.ensures.counted, c.self.invariant.2),
)
