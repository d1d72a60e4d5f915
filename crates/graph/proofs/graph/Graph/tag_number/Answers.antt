use Rattle.std.proofs.Common.{refl}
use Rattle.graph.proofs.Seen.{tags_seen}
use Rattle.graph.proofs.graph.Graph.tag_number.Goals as goal

pub returns-in-Some : goal.returns-in-Some
returns-in-Some c = rw (tags_seen c.self.inside.tags _ _ refl c.self.view_is) at c.in-Some.ensures.number

pub returns-in-None : goal.returns-in-None
returns-in-None c = rw (tags_seen c.self.inside.tags _ _ refl c.self.view_is) at c.in-None.ensures.number
