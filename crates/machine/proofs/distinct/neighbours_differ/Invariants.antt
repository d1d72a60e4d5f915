use Rattle.std.proofs.Common.{ℕ, ◌+◌, ◌<◌}
use Rattle.machine.proofs.DistinctSorted.{Differs}
use Rattle.machine.proofs.distinct.neighbours_differ.Given as goal

abbrev pub invariant-loop-later : goal.invariant-loop-later
invariant-loop-later l = (place : ℕ) → place + 1 < l.later → Differs l.addresses place
