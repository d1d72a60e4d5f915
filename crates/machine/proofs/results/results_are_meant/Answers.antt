use Rattle.machine.proofs.AlongItems.{reads_stay}
use Rattle.machine.proofs.results.results_are_meant.Goals as goal

pub returns-clause-stay : goal.returns-clause-stay
returns-clause-stay c = reads_stay
