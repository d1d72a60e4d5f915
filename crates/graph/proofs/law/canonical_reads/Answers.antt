use Rattle.graph.proofs.PrintedGraph.{canonical_reads}
use Rattle.graph.proofs.law.canonical_reads.Goals as goal

pub returns : goal.returns
returns c = canonical_reads
