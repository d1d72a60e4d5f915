use Rattle.instances.proofs.Runs.{no_more, one_less, one}
use Rattle.instances.proofs.running.runs_are_counted.Goals as goal

pub returns-clause-no_more : goal.returns-clause-no_more
returns-clause-no_more c = no_more

pub returns-clause-one_less : goal.returns-clause-one_less
returns-clause-one_less c = one_less

pub returns-clause-one : goal.returns-clause-one
returns-clause-one c = one
