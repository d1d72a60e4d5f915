use Rattle.graph.proofs.SameGraphs.{graph_same, one_reading}
use Rattle.graph.proofs.law.one_graph.Goals as goal

pub returns : goal.returns
returns c = λ text t u g h first second is also.
    graph_same first.graph t u g h first.is
    (rw (one_reading c.tokens_once.ensures.once c.one_derivation.ensures text t u first second) at second.is) is also
