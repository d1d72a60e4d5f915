use Rattle.std.proofs.Common.{refl}
use Rattle.graph.proofs.Seen.{steps_seen}
use Rattle.graph.proofs.graph.Graph.step_number.Goals as goal

pub returns-in-Some : goal.returns-in-Some
returns-in-Some c = rw (steps_seen c.self.inside.steps _ _ refl c.self.view_is) at c.in-Some.ensures.number

pub returns-in-None : goal.returns-in-None
returns-in-None c = rw (steps_seen c.self.inside.steps _ _ refl c.self.view_is) at c.in-None.ensures.number
