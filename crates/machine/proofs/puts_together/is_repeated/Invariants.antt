use Rattle.std.proofs.Common.{drop}
use Rattle.machine.specs.Puts.{IsRepeated}
use Rattle.machine.proofs.puts_together.is_repeated.Given as goal

-- one of them is of the same exactly if one of those that are left is
abbrev pub invariant-loop-number : goal.invariant-loop-number
invariant-loop-number l = (IsRepeated l.fn.before l.fn.put → IsRepeated (drop l.number l.fn.before) l.fn.put) × (IsRepeated (drop l.number l.fn.before) l.fn.put → IsRepeated l.fn.before l.fn.put)
