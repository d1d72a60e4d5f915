use Rattle.std.proofs.Common.{take}
use Rattle.graph.specs.CheckedSteps.{AreCheckedSteps}
use Rattle.graph.proofs.bodies.check_bodies.Given as goal

abbrev pub invariant-loop-number : goal.invariant-loop-number
invariant-loop-number l = AreCheckedSteps l.tree (take l.number l.tree.steps.items) l.steps
