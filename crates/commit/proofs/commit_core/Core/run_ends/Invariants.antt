use Rattle.commit.proofs.Driven.{Driven}
use Rattle.commit.proofs.commit_core.Core.run_ends.Given as goal

abbrev pub invariant-loop-error : goal.invariant-loop-error
invariant-loop-error g l = Driven g.D.Disk l.graph l.fn.self l.self

-- each end uses one of the allowance
abbrev pub decreases-loop-error : goal.decreases-loop-error
decreases-loop-error g l = l.self.allowance
