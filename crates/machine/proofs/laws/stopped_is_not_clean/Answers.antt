use Rattle.machine.proofs.Within.{stopped_is_meant}
use Rattle.machine.proofs.Quiet.{stopped_or_quiet}
use Rattle.machine.proofs.laws.stopped_is_not_clean.Goals as goal

pub returns-clause-meant : goal.returns-clause-meant
returns-clause-meant c = stopped_is_meant c.facts_are_told_apart.ensures.one c.facts_are_told_apart.ensures.among

pub returns-clause-not_quiet : goal.returns-clause-not_quiet
returns-clause-not_quiet c = stopped_or_quiet c.facts_are_told_apart.ensures.one c.facts_are_told_apart.ensures.among c.ends_once.ensures.one
