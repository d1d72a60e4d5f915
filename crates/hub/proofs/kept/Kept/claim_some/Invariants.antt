use Rattle.hub.proofs.Claims.{Claiming}
use Rattle.hub.proofs.kept.Kept.claim_some.Given as goal

abbrev pub invariant-loop-left : goal.invariant-loop-left
invariant-loop-left g l = Claiming g.J.Naming.opening l.fn.self.history l.self.history l.fn.pass l.pass l.initial.left l.left l.fn.self.core l.self.core l.fn.tasks l.tasks

abbrev pub decreases-loop-left : goal.decreases-loop-left
decreases-loop-left g l = l.left
