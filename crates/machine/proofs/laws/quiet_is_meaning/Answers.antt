use Rattle.machine.proofs.Quiet.{quiet_is_meaning, quiet_is_clean}
use Rattle.machine.proofs.laws.quiet_is_meaning.Goals as goal

pub returns-clause-meaning : goal.returns-clause-meaning
returns-clause-meaning c = quiet_is_meaning c.facts_are_told_apart.ensures.one c.facts_are_told_apart.ensures.among c.ends_once.ensures.one

pub returns-clause-clean : goal.returns-clause-clean
returns-clause-clean c = quiet_is_clean c.facts_are_told_apart.ensures.one c.facts_are_told_apart.ensures.among c.ends_once.ensures.one
