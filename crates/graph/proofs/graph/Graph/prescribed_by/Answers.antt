use Rattle.std.proofs.Common.{sym, arith}
use Rattle.graph.specs.Inside.{graph_seen}
use Rattle.graph.proofs.Seen.{none_prescribed, past_seen}
use Rattle.graph.proofs.graph.Graph.prescribed_by.Goals as goal

pub returns-else-number-len : goal.returns-else-number-len
returns-else-number-len c =
    rw (← c.self.view_is)
    (sym (none_prescribed (graph_seen c.self.inside) c.args.tag.0 c.self.invariant.graph
    (past_seen c.self.inside.tags c.args.tag.0 (omega arith))))
