use Rattle.sides.proofs.Said.{one_item}
use Rattle.sides.proofs.law.one_item_each.Goals as goal

pub returns : goal.returns
returns c = let law = c.images_of_maps.ensures in one_item law.maps law.done law.rest c.facts_are_told_apart.ensures.one
