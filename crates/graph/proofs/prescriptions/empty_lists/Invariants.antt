use Rattle.std.proofs.Common.{◌≡◌, []}
use Rattle.std.specs.Prelude.{replicate}
use Rattle.graph.specs.Prescribed.{numbers_of}
use Rattle.graph.proofs.prescriptions.empty_lists.Given as goal

abbrev pub invariant-loop-list : goal.invariant-loop-list
invariant-loop-list l = numbers_of l.lists.items ≡ replicate l._list []
