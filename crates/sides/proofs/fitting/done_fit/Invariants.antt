use Rattle.std.proofs.Common.{◌↔◌}
use Rattle.std.specs.List.{AllByRecursion}
use Rattle.codec.specs.Image.{facts_in}
use Rattle.holdings.specs.Holdings.{image_of}
use Rattle.holdings.specs.Listing.{insts_of}
use Rattle.sides.specs.Looks.{InstanceFits}
use Rattle.sides.proofs.fitting.done_fit.Given as goal

-- all fit exactly where those that are left do
abbrev pub invariant-loop-number : goal.invariant-loop-number
invariant-loop-number l =
    AllByRecursion (InstanceFits l.graph (facts_in (image_of l.holdings))) (image_of l.holdings).done
    ↔ AllByRecursion (InstanceFits l.graph (facts_in (image_of l.holdings))) (insts_of l.number-iterator)
