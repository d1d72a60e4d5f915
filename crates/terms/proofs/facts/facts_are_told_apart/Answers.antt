use Rattle.terms.proofs.Told.{one_fact, among_both}
use Rattle.terms.proofs.facts.facts_are_told_apart.Goals as goal

pub returns-clause-one : goal.returns-clause-one
returns-clause-one c = one_fact

pub returns-clause-among : goal.returns-clause-among
returns-clause-among c = among_both
