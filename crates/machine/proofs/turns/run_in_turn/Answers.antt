use Rattle.machine.proofs.InTurn.{run_in_turn}
use Rattle.machine.proofs.turns.run_in_turn.Goals as goal

pub returns : goal.returns
returns c = run_in_turn
