use Rattle.machine.proofs.Reached.{nothing_is_reached, legal_as_set, reached_goes_on, reached_takes}
use Rattle.machine.proofs.states.reached_goes_on.Goals as goal

pub returns-clause-empty : goal.returns-clause-empty
returns-clause-empty c = nothing_is_reached

pub returns-clause-goes_on : goal.returns-clause-goes_on
returns-clause-goes_on c = reached_goes_on c.facts_are_told_apart.ensures.one c.facts_are_told_apart.ensures.among c.facts_go_on.ensures.all c.facts_go_on.ensures.environment

pub returns-clause-takes : goal.returns-clause-takes
returns-clause-takes c = reached_takes c.facts_are_told_apart.ensures.one c.facts_are_told_apart.ensures.among c.facts_go_on.ensures.all c.facts_go_on.ensures.environment

pub returns-clause-as_set : goal.returns-clause-as_set
returns-clause-as_set c = legal_as_set c.facts_are_told_apart.ensures.one c.facts_are_told_apart.ensures.among
