use Rattle.machine.proofs.GoesOn.{one_state}
use Rattle.machine.proofs.Within.{goes_on, parts}
use Rattle.machine.proofs.laws.legal_lists_go_on.Goals as goal

pub returns-clause-goes_on : goal.returns-clause-goes_on
returns-clause-goes_on c = goes_on c.facts_are_told_apart.ensures.one c.facts_are_told_apart.ensures.among

pub returns-clause-parts : goal.returns-clause-parts
returns-clause-parts c = parts c.facts_are_told_apart.ensures.one c.facts_are_told_apart.ensures.among

pub returns-clause-state : goal.returns-clause-state
returns-clause-state c = one_state c.facts_are_told_apart.ensures.among
