use Rattle.machine.proofs.GroupCut.{cut_is_of_ends}
use Rattle.machine.proofs.turns.cut_in_turn.Goals as goal

pub returns : goal.returns
returns c = cut_is_of_ends
