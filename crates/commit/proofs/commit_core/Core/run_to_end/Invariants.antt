use Rattle.commit.specs.Steps.{ready_count}
use Rattle.commit.proofs.Driven.{Driven}
use Rattle.commit.proofs.commit_core.Core.run_to_end.Given as goal

abbrev pub invariant-loop-alloc : goal.invariant-loop-alloc
invariant-loop-alloc g l = Driven g.D.Disk l.graph l.fn.self l.self

-- each instance that comes to wait is ready no more
abbrev pub decreases-loop-alloc : goal.decreases-loop-alloc
decreases-loop-alloc g l = ready_count l.self
