use Rattle.graph.proofs.law.one_reading.Goals as goal

pub returns : goal.returns
returns c = λ text g h one two. c.one_graph.ensures text one.tree two.tree g h one.read two.read one.graph two.graph
