use Rattle.std.proofs.Common.{drop}
use Rattle.terms.specs.declared.name.Addr.{Addr}
use Rattle.graph.specs.Fits.{addresses, IsIn}
use Rattle.machine.specs.Absence.{AreAllAbsent}
use Rattle.machine.proofs.absence.are_absent.Given as goal

-- if no item of what is left is there, none is; and what is left is part of the list
abbrev pub invariant-loop-number : goal.invariant-loop-number
invariant-loop-number l =
    (AreAllAbsent l.fn.items (drop l.number l.fn.puts) → AreAllAbsent l.fn.items l.fn.puts)
    × ((address : Addr) → IsIn address (addresses (drop l.number l.fn.puts)) → IsIn address (addresses l.fn.puts))
