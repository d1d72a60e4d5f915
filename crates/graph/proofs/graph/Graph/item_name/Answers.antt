use Rattle.std.proofs.Common.{refl}
use Rattle.graph.proofs.Seen.{items_seen}
use Rattle.graph.proofs.graph.Graph.item_name.Goals as goal

pub returns-clause-name : goal.returns-clause-name
returns-clause-name c = rw (items_seen c.self.inside.items _ _ refl c.self.view_is) at c.name.ensures.name

pub returns-clause-once : goal.returns-clause-once
returns-clause-once c = rw (items_seen c.self.inside.items _ _ refl c.self.view_is) at c.name.ensures.once
