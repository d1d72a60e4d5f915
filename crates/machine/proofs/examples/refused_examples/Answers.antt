use Rattle.machine.proofs.Rows.{refused_row}
use Rattle.machine.proofs.examples.refused_examples.Goals as goal

pub returns : goal.returns
returns c = refused_row c.facts_are_told_apart.ensures.one c.facts_are_told_apart.ensures.among c.ends_once.ensures.one
