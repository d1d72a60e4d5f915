use Rattle.std.proofs.Common.{map, subst, sym}
use Rattle.std.specs.List.{AllByRecursion}
use Rattle.codec.specs.Spelling.{HasPutNumber}
use Rattle.holdings.specs.Listing.{as_listed}
use Rattle.machine.proofs.Imaged.{held_numbered}
use Rattle.machine.proofs.machine.Machine.items_left.Goals as goal

pub invariant_of-result : goal.invariant_of-result
invariant_of-result c =
    let m = c.self.inside in
    subst (λ walk. AllByRecursion HasPutNumber (map as_listed walk)) (sym c.walk.ensures) (held_numbered c.facts_are_told_apart.ensures.one c.facts_are_told_apart.ensures.among c.images_of_maps.ensures.maps m.graph.value m.memory c.self.invariant.0)
