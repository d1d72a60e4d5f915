use Rattle.graph.specs.Numbered.{names_numbered}
use Rattle.graph.proofs.Checking.{AddedSoFar}
use Rattle.graph.proofs.steps.add_names.Given as goal

abbrev pub invariant-loop-name : goal.invariant-loop-name
invariant-loop-name l = AddedSoFar (names_numbered l.fn.names) l.more l.name-index (names_numbered l.names)
