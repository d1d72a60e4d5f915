use Rattle.std.proofs.Common.{map, take}
use Rattle.graph.specs.Seen.{step_seen}
use Rattle.graph.specs.Prescribed.{ArePrescriptions, numbers_of}
use Rattle.graph.proofs.prescriptions.prescriptions.Given as goal

abbrev pub invariant-loop-number : goal.invariant-loop-number
invariant-loop-number l = ArePrescriptions (map step_seen (take l.number l.steps)) l.tags (numbers_of l.lists.items)
