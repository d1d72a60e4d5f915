use Rattle.machine.proofs.Quiet.{one_end}
use Rattle.machine.proofs.laws.one_end.Goals as goal

pub returns : goal.returns
returns c = one_end c.facts_are_told_apart.ensures.one c.facts_are_told_apart.ensures.among c.ends_once.ensures.one
