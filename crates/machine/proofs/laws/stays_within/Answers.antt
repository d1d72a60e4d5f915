use Rattle.machine.proofs.Within.{stays_within}
use Rattle.machine.proofs.laws.stays_within.Goals as goal

pub returns : goal.returns
returns c = stays_within c.facts_are_told_apart.ensures.one c.facts_are_told_apart.ensures.among
