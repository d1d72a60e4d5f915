use Rattle.machine.proofs.GroupRow.{two_meet}
use Rattle.machine.proofs.examples.two_ends_meet.Goals as goal

pub returns : goal.returns
returns c = two_meet c.facts_are_told_apart.ensures.one c.facts_are_told_apart.ensures.among c.ends_once.ensures.one
