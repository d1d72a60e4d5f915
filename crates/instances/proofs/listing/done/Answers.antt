use Rattle.std.proofs.Common.{rules, tests}
use Rattle.std.proofs.lemmas.Iterator.{items_from_collect}
use Rattle.std.proofs.lemmas.Iterator.Consumers.{YieldsList-from_filter_map, YieldsList-from_first}
use Rattle.instances.specs.Listed.{if_done}
use Rattle.instances.proofs.listing.done.Goals as goal

pub returns : goal.returns
returns c =
    items_from_collect _ c.collect.ensures.ran
    (YieldsList-from_filter_map _ (λ entry. if_done entry.0 entry.1) (YieldsList-from_first (λ x. x) (λ w. w) c.args.walk (cc)) c.filter_map.ensures.closure (λ x r q k. search (rules, tests)))
