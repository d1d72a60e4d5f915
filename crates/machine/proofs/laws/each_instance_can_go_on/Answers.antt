use Rattle.machine.proofs.GoesOn.{new_or_conflicting, can_go_on}
use Rattle.machine.proofs.laws.each_instance_can_go_on.Goals as goal

pub returns-clause-puts : goal.returns-clause-puts
returns-clause-puts c = new_or_conflicting c.facts_are_told_apart.ensures.one

pub returns-clause-instance : goal.returns-clause-instance
returns-clause-instance c = can_go_on c.facts_are_told_apart.ensures.one c.facts_are_told_apart.ensures.among c.ends_once.ensures.some
