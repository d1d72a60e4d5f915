use Rattle.machine.proofs.Reached.{needs_stays, quiet_waits, reached_can_go_on}
use Rattle.machine.proofs.states.unfinished_wait.Goals as goal

pub returns-clause-can_go_on : goal.returns-clause-can_go_on
returns-clause-can_go_on c = reached_can_go_on c.facts_are_told_apart.ensures.one c.facts_are_told_apart.ensures.among c.ends_once.ensures.some

pub returns-clause-stays : goal.returns-clause-stays
returns-clause-stays c = needs_stays

pub returns-clause-quiet : goal.returns-clause-quiet
returns-clause-quiet c = quiet_waits c.facts_are_told_apart.ensures.one c.facts_are_told_apart.ensures.among c.ends_once.ensures.one
