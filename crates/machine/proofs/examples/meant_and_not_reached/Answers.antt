use Rattle.machine.proofs.MixedRow.{mixed_is_refused}
use Rattle.machine.proofs.examples.meant_and_not_reached.Goals as goal

pub returns : goal.returns
returns c = mixed_is_refused c.facts_are_told_apart.ensures.one c.facts_are_told_apart.ensures.among c.ends_once.ensures.one
