use Rattle.graph.proofs.WorkedExamples.{canonical_example}
use Rattle.graph.proofs.examples.canonical_example.Goals as goal

pub returns : goal.returns
returns c = canonical_example
