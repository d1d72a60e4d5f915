use Rattle.graph.proofs.ReadGraphs.{reads_textual}
use Rattle.graph.proofs.law.reads_textual.Goals as goal

pub returns : goal.returns
returns c = reads_textual
