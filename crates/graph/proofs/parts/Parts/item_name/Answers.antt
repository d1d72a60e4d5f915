use Rattle.std.proofs.Common.{refl}
use Rattle.graph.proofs.Seen.{items_seen}
use Rattle.graph.proofs.parts.Parts.item_name.Goals as goal

pub returns : goal.returns
returns c = rw (items_seen c.self.inside.items.now _ _ refl c.self.view_is) at c.name.ensures.name
