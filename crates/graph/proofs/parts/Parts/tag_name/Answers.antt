use Rattle.std.proofs.Common.{refl}
use Rattle.graph.proofs.Seen.{tags_seen}
use Rattle.graph.proofs.parts.Parts.tag_name.Goals as goal

pub returns : goal.returns
returns c = rw (tags_seen c.self.inside.tags.now _ _ refl c.self.view_is) at c.name.ensures.name
