use Rattle.audit.specs.Replayed.{Grows, IsReplayed}
use Rattle.audit.proofs.replay.replay_waiting.Given as goal

abbrev pub invariant-loop-inst : goal.invariant-loop-inst
invariant-loop-inst g l = IsReplayed l.fn.store l.marks × Grows l.fn.marks l.marks
