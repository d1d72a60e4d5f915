use Rattle.std.proofs.Common.{drop}
use Rattle.machine.specs.Tally.{AreAsMany}
use Rattle.machine.proofs.Tallied.{IsOnTheWay}
use Rattle.machine.proofs.tally.Tally.add_puts.Given as goal

abbrev pub invariant-loop-number : goal.invariant-loop-number
invariant-loop-number l = AreAsMany l.fn.self l.self × IsOnTheWay l.fn.self l.self (drop l.number l.fn.puts) l.fn.puts
