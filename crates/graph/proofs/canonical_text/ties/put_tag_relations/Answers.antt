use Rattle.std.proofs.Common.{refl}
use Rattle.graph.proofs.Seen.{tags_seen}
use Rattle.graph.proofs.canonical_text.ties.put_tag_relations.Goals as goal

pub returns : goal.returns
returns c = rw (tags_seen c.graph.inside.tags.now _ _ refl c.graph.view_is) at c.in_ok-put_relations.ensures
