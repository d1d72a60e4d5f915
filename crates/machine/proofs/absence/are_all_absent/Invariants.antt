use Rattle.std.proofs.Common.{drop}
use Rattle.terms.specs.declared.name.Addr.{Addr}
use Rattle.graph.specs.Fits.{addresses, IsIn}
use Rattle.machine.specs.Absence.{AreAllAbsent}
use Rattle.machine.specs.Group.{puts_of_all}
use Rattle.machine.proofs.absence.are_all_absent.Given as goal

-- if no item of what is left is there, none is; and what is left is part of the list
abbrev pub invariant-loop-number : goal.invariant-loop-number
invariant-loop-number l =
    (AreAllAbsent l.fn.items (puts_of_all (drop l.number l.fn.ends)) → AreAllAbsent l.fn.items (puts_of_all l.fn.ends))
    × ((address : Addr) → IsIn address (addresses (puts_of_all (drop l.number l.fn.ends))) → IsIn address (addresses (puts_of_all l.fn.ends)))
