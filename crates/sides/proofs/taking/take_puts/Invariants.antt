use Rattle.sides.proofs.TakenPuts.{TakenSoFar}
use Rattle.sides.proofs.taking.take_puts.Given as goal

abbrev pub invariant-loop-number : goal.invariant-loop-number
invariant-loop-number l = TakenSoFar l.graph l.instance l.puts l.number l.fn.holdings l.holdings
