use Rattle.graph.proofs.WorkedExamples.{fitting_example}
use Rattle.graph.proofs.examples.fitting_example.Goals as goal

pub returns : goal.returns
returns c = fitting_example
