use Rattle.machine.proofs.Reached.{reached_is_within, reached_has_one_item}
use Rattle.machine.proofs.states.reached_within.Goals as goal

pub returns-clause-within : goal.returns-clause-within
returns-clause-within c = reached_is_within c.facts_are_told_apart.ensures.one c.facts_are_told_apart.ensures.among

pub returns-clause-one_item : goal.returns-clause-one_item
returns-clause-one_item c = reached_has_one_item c.facts_are_told_apart.ensures.one c.facts_are_told_apart.ensures.among
