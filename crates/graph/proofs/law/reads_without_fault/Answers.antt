use Rattle.graph.proofs.WithoutFault.{no_fault}
use Rattle.graph.proofs.law.reads_without_fault.Goals as goal

pub returns : goal.returns
returns c = λ text g fault reads cause. no_fault c.tokens_once.ensures.once c.one_derivation.ensures c.read_without_fault.ensures c.one_graph.ensures text g reads fault cause
