use Rattle.std.proofs.Common.{map, ◌↔◌}
use Rattle.std.specs.List.{AllByRecursion}
use Rattle.codec.specs.Image.{facts_in}
use Rattle.holdings.specs.Holdings.{image_of}
use Rattle.holdings.specs.Listing.{as_listed}
use Rattle.sides.specs.Looks.{ItemFits}
use Rattle.sides.proofs.fitting.items_fit.Given as goal

-- all fit exactly where those that are left do
abbrev pub invariant-loop-address : goal.invariant-loop-address
invariant-loop-address l =
    AllByRecursion (λ it. ItemFits l.graph (facts_in (image_of l.holdings)) it.0 it.2) (image_of l.holdings).items
    ↔ AllByRecursion (λ it. ItemFits l.graph (facts_in (image_of l.holdings)) it.0 it.2) (map as_listed l.address-iterator)
