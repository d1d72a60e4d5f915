use Rattle.std.proofs.Common.{map, rules}
use Rattle.std.proofs.lemmas.Iterator.{items_from_collect, YieldsList-from_map}
use Rattle.std.proofs.lemmas.Iterator.Consumers.{YieldsList-at, YieldsList-from_first}
use Rattle.std.specs.FinMap.{entries}
use Rattle.items.specs.Held.{address_at}
use Rattle.holdings.specs.Listing.{as_listed}
use Rattle.machine.proofs.imaging.listed_items.Goals as goal

pub returns : goal.returns
returns c =
    let road = YieldsList-from_first (λ x. x) (λ w. w) (map (λ entry. (address_at entry.0, entry.1)) (entries c.args.items.now.items.items)) c.walk.ensures in
    items_from_collect _ c.collect.ensures.ran (YieldsList-from_map _ as_listed (YieldsList-at c.map.ensures.source road) c.map.ensures.closure (λ x r q k. search rules))
