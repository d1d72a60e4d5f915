use Rattle.audit.specs.Replayed.{Grows, IsReplayed}
use Rattle.audit.proofs.Counted.{to_replay}
use Rattle.audit.proofs.replay.replay_woken.Given as goal

abbrev pub invariant-loop-puts : goal.invariant-loop-puts
invariant-loop-puts g l = IsReplayed l.fn.store l.marks × Grows l.fn.marks l.marks

-- each turn replays one more of the done instances
abbrev pub decreases-loop-puts : goal.decreases-loop-puts
decreases-loop-puts g l = to_replay l.fn.store l.marks
