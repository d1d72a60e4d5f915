use Rattle.machine.proofs.InTurn.{room_in_turn}
use Rattle.machine.proofs.turns.room_in_turn.Goals as goal

pub returns : goal.returns
returns c = room_in_turn
