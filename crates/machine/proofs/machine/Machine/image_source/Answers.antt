use Rattle.std.proofs.Common.{◌∙◌, ap, sym, subst, ◌++◌, length}
use Rattle.std.specs.List.{flat_map, AllByRecursion}
use Rattle.terms.specs.declared.key.TheConstants.{MAX_COMPONENTS}
use Rattle.codec.specs.Spelling.{IsItem, IsMarked, IsInstance, fault_bytes, item_bytes, marked_bytes, inst_bytes}
use Rattle.instances.specs.Listed.{AreTheDone, all_done}
use Rattle.machine.specs.Imaging.{SpellsAll, items_in, tags_in}
use Rattle.machine.specs.Machine.{Machine}
use Rattle.machine.specs.Walks.{IsFrontOf}
use Rattle.machine.proofs.Imaged.{spells_all}
use Rattle.machine.proofs.machine.Machine.image_source.Goals as goal

pub returns : goal.returns
returns c =
    let inside = c.self.inside in
    let m : Machine = record { graph = inside.graph.value; memory = inside.memory } in
    let ended = all_done m.memory.instances in
    let are = subst (AreTheDone m.memory.instances) c.done_walk.ensures.walk c.done_walk.ensures.done in
    let held = ap (λ (seen : Machine). items_in seen.memory.items) (sym c.self.view_is) in
    let first = c.encode_fault.new.out.items in
    let of_items = c.in_ok-items.items in
    let of_tags = c.in_ok-tags.tags in
    let of_done = c.in_ok-done.done in
    subst (λ (seen : Machine). SpellsAll seen c.new-7.result) c.self.view_is
    (spells_all c.facts_are_told_apart.ensures.one c.facts_are_told_apart.ensures.among c.images_of_maps.ensures.maps c.images_of_maps.ensures.rest m ended are c.self.invariant.0 c.in_ok-encode_fault.ensures.in_range
    first of_items.bytes.items of_tags.bytes.items of_done.bytes.items c.new-7.result c.new-4.result c.new-5.result c.new-6.result of_items.length of_tags.length of_done.length
    (subst (λ list. IsFrontOf (flat_map item_bytes) length (AllByRecursion (IsItem MAX_COMPONENTS)) list first of_items.bytes.items of_items.length) (c.items_left.ensures ∙ held) c.in_ok-items.ensures.front)
    (subst (λ before. IsFrontOf (flat_map marked_bytes) length (AllByRecursion (IsMarked MAX_COMPONENTS)) (tags_in m.memory.instances) before of_tags.bytes.items of_tags.length) c.in_ok-first.ensures.items
    (subst (λ list. IsFrontOf (flat_map marked_bytes) length (AllByRecursion (IsMarked MAX_COMPONENTS)) list c.in_ok-first.first.items of_tags.bytes.items of_tags.length) c.tags.ensures c.in_ok-tags.ensures.front))
    (subst (λ before. IsFrontOf (flat_map inst_bytes) length (AllByRecursion (IsInstance MAX_COMPONENTS)) ended before of_done.bytes.items of_done.length) c.in_ok-first-2.ensures.items
    (subst (λ list. IsFrontOf (flat_map inst_bytes) length (AllByRecursion (IsInstance MAX_COMPONENTS)) list c.in_ok-first-2.first.items of_done.bytes.items of_done.length) c.done_walk.ensures.walk c.in_ok-done.ensures.front))
    (c.in_ok-encode_fault.ensures.spelled ∙ ap (λ before. before ++ fault_bytes m.memory.fault) c.in_ok-fault.ensures.items)
    (c.new-4.ensures ∙ ap (λ list. of_items.bytes.items ++ flat_map item_bytes list) (c.items_left-2.ensures ∙ held))
    (c.new-5.ensures ∙ ap (λ list. of_tags.bytes.items ++ flat_map marked_bytes list) c.tags-2.ensures)
    (c.new-6.ensures ∙ ap (λ list. of_done.bytes.items ++ flat_map inst_bytes list) c.done_walk-2.ensures.walk)
    c.new-7.ensures)
