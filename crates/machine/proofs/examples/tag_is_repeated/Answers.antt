use Rattle.machine.proofs.PutsRow.{tag_repeated}
use Rattle.machine.proofs.examples.tag_is_repeated.Goals as goal

pub returns : goal.returns
returns c = tag_repeated
