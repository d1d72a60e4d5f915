use Rattle.std.proofs.Common.{refl}
use Rattle.graph.proofs.Seen.{steps_seen}
use Rattle.graph.proofs.graph.Graph.step_name.Goals as goal

pub returns-clause-name : goal.returns-clause-name
returns-clause-name c = rw (steps_seen c.self.inside.steps _ _ refl c.self.view_is) at c.name.ensures.name

pub returns-clause-once : goal.returns-clause-once
returns-clause-once c = rw (steps_seen c.self.inside.steps _ _ refl c.self.view_is) at c.name.ensures.once
