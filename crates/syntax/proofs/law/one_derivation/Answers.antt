use Rattle.syntax.proofs.Walk.{graph_once}
use Rattle.syntax.proofs.law.one_derivation.Goals as goal

pub returns : goal.returns
returns c spots one two first second = graph_once spots one two first second
