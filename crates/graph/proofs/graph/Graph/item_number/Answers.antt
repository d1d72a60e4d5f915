use Rattle.std.proofs.Common.{refl}
use Rattle.graph.proofs.Seen.{items_seen}
use Rattle.graph.proofs.graph.Graph.item_number.Goals as goal

pub returns-in-Some : goal.returns-in-Some
returns-in-Some c = rw (items_seen c.self.inside.items _ _ refl c.self.view_is) at c.in-Some.ensures.number

pub returns-in-None : goal.returns-in-None
returns-in-None c = rw (items_seen c.self.inside.items _ _ refl c.self.view_is) at c.in-None.ensures.number
