use Rattle.machine.proofs.Reached.{reached_is_meaning, one_meaning_each, reached_stopped_or_quiet}
use Rattle.machine.proofs.states.reached_and_quiet.Goals as goal

pub returns-clause-meaning : goal.returns-clause-meaning
returns-clause-meaning c = reached_is_meaning c.facts_are_told_apart.ensures.one c.facts_are_told_apart.ensures.among c.ends_once.ensures.one

pub returns-clause-one : goal.returns-clause-one
returns-clause-one c = one_meaning_each

pub returns-clause-stopped : goal.returns-clause-stopped
returns-clause-stopped c = reached_stopped_or_quiet c.facts_are_told_apart.ensures.one c.facts_are_told_apart.ensures.among c.ends_once.ensures.one
