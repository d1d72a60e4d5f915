use Rattle.std.proofs.Common.{◌+◌, ◌-◌, length}
use Rattle.steptree.specs.declared.body.TheConstants.{BUDGET}
use Rattle.steplang.specs.Running.{reads_with}
use Rattle.hub.specs.Running.{kept_of}
use Rattle.hub.proofs.Bodies.{GoesOn}
use Rattle.hub.proofs.hub.Hub.go_on.Given as goal

abbrev pub invariant-loop-address : goal.invariant-loop-address
invariant-loop-address g l = GoesOn g.J.Naming.opening (kept_of l.fn.kept) l.initial.pass l.pass l.fn.run l.run l.answer l.ahead

-- each turn but the last brings a read, of which there are no more than the budget
abbrev pub decreases-loop-address : goal.decreases-loop-address
decreases-loop-address g l = BUDGET + 1 - length (reads_with l.run.reads l.run.awaits l.answer)
