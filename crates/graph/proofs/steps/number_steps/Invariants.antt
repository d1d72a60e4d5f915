use Rattle.std.proofs.Common.{take}
use Rattle.graph.specs.Tree.{step_names}
use Rattle.graph.specs.Steps.{ArePlaces}
use Rattle.graph.proofs.steps.number_steps.Given as goal

abbrev pub invariant-loop-number : goal.invariant-loop-number
invariant-loop-number l = ArePlaces l.numbered (step_names (take l.number l.steps))
