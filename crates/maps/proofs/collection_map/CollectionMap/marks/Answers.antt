use Rattle.std.proofs.Common.{subst}
use Rattle.maps.specs.Marked.{AreUnmarked, AreUnmarkedLists}
use Rattle.maps.proofs.MarkedAll.{none_of_each}
use Rattle.maps.proofs.collection_map.CollectionMap.marks.Goals as goal

pub returns-in-Ok : goal.returns-in-Ok
returns-in-Ok g c =
    let collections = c.self.inside.collections.items in
    let maps = c.in-Ok.maps.items in
    subst (λ s. AreUnmarked s.items c.of_maps.result) c.self.view_is (none_of_each collections maps c.of_maps.result c.of_maps.ensures (subst (λ cs. AreUnmarkedLists cs maps) c.deref.ensures.value c.in-Ok.ensures))
