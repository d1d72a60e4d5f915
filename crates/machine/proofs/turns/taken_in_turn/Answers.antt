use Rattle.machine.proofs.InTurn.{taken_in_turn}
use Rattle.machine.proofs.turns.taken_in_turn.Goals as goal

pub returns : goal.returns
returns c = taken_in_turn c.facts_are_told_apart.ensures.among
