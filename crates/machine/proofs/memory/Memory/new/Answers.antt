use Rattle.std.proofs.Common.{◌∙◌, ap, List, map}
use Rattle.terms.specs.declared.name.TagCollection.{TagCollection}
use Rattle.machine.proofs.Beginning.{begins}
use Rattle.machine.proofs.memory.Memory.new.Goals as goal

pub returns : goal.returns
returns c =
    begins c.args.graph.now c.deref.result.now c.in_ok-items.items c.in_ok-instances.instances c.item_count.result c.tag_count.result c.item_count.ensures.graph
    (ap (λ (list : List TagCollection). map (λ (t : TagCollection). t.0) list) c.deref.ensures.value ∙ c.in_ok-prescribers.ensures.by_step)
    c.in_ok-items.ensures c.item_count.ensures.count c.in_ok-instances.ensures c.tag_count.ensures.count
