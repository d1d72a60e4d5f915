use Rattle.std.proofs.Common.{◌≡◌}
use Rattle.audit.specs.Replayed.{IsReplayed}
use Rattle.audit.proofs.replay.replay_next.Given as goal

abbrev pub invariant-loop-inst : goal.invariant-loop-inst
invariant-loop-inst l = IsReplayed l.fn.store l.marks × (l.marks ≡ l.fn.marks)

-- each turn takes one that is to be tried
abbrev pub decreases-loop-inst : goal.decreases-loop-inst
decreases-loop-inst l = l.waiting
