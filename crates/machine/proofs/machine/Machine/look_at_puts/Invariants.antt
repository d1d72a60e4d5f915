use Rattle.std.proofs.Common.{take}
use Rattle.machine.specs.Machine.{facts}
use Rattle.machine.specs.State.{AreLegalFrom}
use Rattle.machine.proofs.machine.Machine.look_at_puts.Given as goal

-- those so far are legal
abbrev pub invariant-loop-number : goal.invariant-loop-number
invariant-loop-number l = AreLegalFrom l.fn.self.graph (facts l.fn.self) (take l.number l.fn.puts)
