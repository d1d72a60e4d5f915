use Rattle.std.proofs.Common.{◌∙◌, ap, List, map}
use Rattle.terms.specs.declared.name.TagCollection.{TagCollection}
use Rattle.machine.proofs.Restored.{restored}
use Rattle.machine.proofs.memory.Memory.of_holdings.Goals as goal

pub returns : goal.returns
returns c =
    let facts = c.facts_are_told_apart.ensures in
    let laws = c.images_of_maps.ensures in
    restored facts.one laws.maps laws.done laws.rest c.orders_are_total.ensures.keys c.args.graph.now c.in_ok-prescribers.ensures.graph c.args.holdings c.requires.fits c.requires.numbered c.requires.collections c.into_parts-fault.result c.into_parts-fault.ensures
    c.deref.result.now (ap (λ (list : List TagCollection). map (λ (t : TagCollection). t.0) list) c.deref.ensures.value ∙ c.in_ok-prescribers.ensures.by_step) c.in_ok-instances.instances c.in_ok-instances.ensures c.are_there_together.ensures
