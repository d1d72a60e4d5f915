use Rattle.std.proofs.Common.{◌∙◌, ap, sym, []}
use Rattle.maps.specs.Numbered.{all_from, left_of}
use Rattle.maps.proofs.Whole.{no_elements, walked}
use Rattle.maps.proofs.collection_map.CollectionMap.walk.Goals as goal

pub returns-in-Some : goal.returns-in-Some
returns-in-Some g c =
    ap (λ entries. left_of 0 entries c.in-Some.others.now) c.walk.ensures ∙ ap (all_from 0) (sym c.in-Some.ensures.cases.0 ∙ c.deref.ensures.value)
    ∙ walked c.self.inside.collections.items c.args.self.now c.self.view_is

pub returns-in-None : goal.returns-in-None
returns-in-None g c =
    ap (λ entries. left_of 0 entries []) c.none.ensures ∙ ap (all_from 0) (sym (no_elements c.deref.result.now c.in-None.ensures.cases) ∙ c.deref.ensures.value)
    ∙ walked c.self.inside.collections.items c.args.self.now c.self.view_is
