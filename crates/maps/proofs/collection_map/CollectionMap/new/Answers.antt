use Rattle.std.proofs.Common.{◌∙◌, ap}
use Rattle.maps.proofs.Whole.{seen_numbered, none_seen}
use Rattle.maps.proofs.collection_map.CollectionMap.new.Goals as goal

pub returns : goal.returns
returns g c = ap seen_numbered c.in_ok-empty_maps.ensures ∙ none_seen c.args.collections
