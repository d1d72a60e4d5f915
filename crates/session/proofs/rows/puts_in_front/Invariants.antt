use Rattle.std.proofs.Common.{take}
use Rattle.std.specs.List.{AllByRecursion}
use Rattle.session.specs.Went.{Puts}
use Rattle.session.proofs.rows.puts_in_front.Given as goal

abbrev pub invariant-loop-number : goal.invariant-loop-number
invariant-loop-number l = AllByRecursion Puts (take l.number l.fn.commands)
