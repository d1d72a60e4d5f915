use Rattle.std.proofs.Common.{take}
use Rattle.std.specs.List.{AllByRecursion}
use Rattle.machine.specs.Group.{IsDone}
use Rattle.machine.proofs.group.up_to_fault.Given as goal

abbrev pub invariant-loop-number : goal.invariant-loop-number
invariant-loop-number l = AllByRecursion IsDone (take l.number l.fn.ends)
