use Rattle.std.proofs.Common.{◌+◌, ◌-◌, length}
use Rattle.steptree.specs.declared.body.TheConstants.{BUDGET}
use Rattle.steplang.specs.Running.{reads_with}
use Rattle.audit.proofs.Ran.{GoesOn}
use Rattle.audit.proofs.bodies.go_on.Given as goal

abbrev pub invariant-loop-run : goal.invariant-loop-run
invariant-loop-run l = GoesOn l.marks l.fn.run l.run l.answer

-- each turn but the last brings a read, of which there are no more than the budget
abbrev pub decreases-loop-run : goal.decreases-loop-run
decreases-loop-run l = BUDGET + 1 - length (reads_with l.run.reads l.run.awaits l.answer)
