use Rattle.audit.specs.Replayed.{IsReplayed}
use Rattle.audit.proofs.Counted.{to_replay}
use Rattle.audit.proofs.replay.replay.Given as goal

abbrev pub invariant-loop-alloc : goal.invariant-loop-alloc
invariant-loop-alloc g l = IsReplayed l.fn.store l.marks

-- each round replays one more of the done instances
abbrev pub decreases-loop-alloc : goal.decreases-loop-alloc
decreases-loop-alloc g l = to_replay l.fn.store l.marks
