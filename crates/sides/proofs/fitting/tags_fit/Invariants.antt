use Rattle.std.proofs.Common.{◌↔◌}
use Rattle.std.specs.List.{AllByRecursion}
use Rattle.holdings.specs.Holdings.{image_of}
use Rattle.holdings.specs.Listing.{tags_of}
use Rattle.sides.specs.Looks.{TagFits}
use Rattle.sides.proofs.fitting.tags_fit.Given as goal

-- all fit exactly where those that are left do
abbrev pub invariant-loop-number : goal.invariant-loop-number
invariant-loop-number l =
    AllByRecursion (λ marked. TagFits l.graph marked.0 marked.1) (image_of l.holdings).tags
    ↔ AllByRecursion (λ marked. TagFits l.graph marked.0 marked.1) (tags_of l.number-iterator)
