use Rattle.machine.proofs.Rows.{twice_row}
use Rattle.machine.proofs.examples.item_put_twice.Goals as goal

pub returns : goal.returns
returns c = twice_row c.facts_are_told_apart.ensures.one c.facts_are_told_apart.ensures.among c.ends_once.ensures.one
