use Rattle.audit.proofs.Sweeping.{Sweeping}
use Rattle.audit.proofs.replay.sweep.Given as goal

abbrev pub invariant-loop-inst : goal.invariant-loop-inst
invariant-loop-inst g l = Sweeping l.fn.store l.fn.marks l.marks l.is_one l.inst-iterator
