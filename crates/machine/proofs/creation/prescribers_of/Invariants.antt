use Rattle.std.proofs.Common.{◌≡◌, map, take}
use Rattle.terms.specs.declared.name.TagCollection.{TagCollection}
use Rattle.graph.specs.Graph.{Step}
use Rattle.machine.proofs.creation.prescribers_of.Given as goal

abbrev pub invariant-loop-number : goal.invariant-loop-number
invariant-loop-number l = map (λ (t : TagCollection). t.0) l.prescribers.items ≡ take l.number (map (λ (step : Step). step.prescriber) l.graph.steps)
