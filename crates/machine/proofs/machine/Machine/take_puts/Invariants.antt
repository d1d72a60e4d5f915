use Rattle.std.proofs.Common.{drop}
use Rattle.machine.proofs.PutsInTurn.{PutsLeft}
use Rattle.machine.proofs.machine.Machine.take_puts.Given as goal

abbrev pub invariant-loop-put : goal.invariant-loop-put
invariant-loop-put l = PutsLeft l.fn.self l.fn.puts l.self (drop l.put-index l.fn.puts)
