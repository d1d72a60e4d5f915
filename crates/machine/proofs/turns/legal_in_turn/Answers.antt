use Rattle.machine.proofs.InTurn.{legal_in_turn}
use Rattle.machine.proofs.turns.legal_in_turn.Goals as goal

pub returns : goal.returns
returns c = legal_in_turn c.facts_are_told_apart.ensures.among
