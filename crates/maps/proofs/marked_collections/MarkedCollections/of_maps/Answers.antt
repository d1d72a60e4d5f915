use Rattle.maps.proofs.MarkedAll.{get_each}
use Rattle.maps.proofs.marked_collections.MarkedCollections.of_maps.Goals as goal

pub returns : goal.returns
returns g c = get_each c.args.maps.items
