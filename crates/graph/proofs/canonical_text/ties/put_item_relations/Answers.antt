use Rattle.std.proofs.Common.{refl}
use Rattle.graph.proofs.Seen.{items_seen}
use Rattle.graph.proofs.canonical_text.ties.put_item_relations.Goals as goal

pub returns : goal.returns
returns c = rw (items_seen c.graph.inside.items.now _ _ refl c.graph.view_is) at c.in_ok-put_relations.ensures
