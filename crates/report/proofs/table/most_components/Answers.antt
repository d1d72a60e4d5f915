use Rattle.std.proofs.Common.{◌∙◌, ◌<◌, ℕ, List, [], length, map, max, take, get_or, ap, sym}
use Rattle.std.proofs.lemmas.List.{map_more}
use Rattle.terms.specs.declared.name.ItemCollection.{ItemCollection}
use Rattle.report.specs.Got.{Named}
use Rattle.report.specs.TableText.{most_components}
use Rattle.report.proofs.Reports.{greater, most_more}
use Rattle.report.proofs.table.most_components.Goals as goal

pub loop-one-preserved : goal.loop-one-preserved
loop-one-preserved c =
    let graph = c.args.graph.now in
    let list = c.args.collections.now in
    let index = c.loop-one.one-index in
    let none : Named = (record { ref_ptr = (0, 0); now = [] }, record { 0 = 0 }) in
    let less : index < length list = c.loop-one-test.true in
    let before = map (λ (one : Named). one.1) (take index list) in
    let here = (get_or list index none).1 in
    c.max-most.ensures ∙ greater c.loop-one.most c.components_of.result ∙ ap (λ (most : ℕ). max most c.components_of.result) c.loop-one.invariant ∙ ap (λ (components : ℕ). max (most_components graph before) components) c.components_of.ensures
    ∙ sym (most_more graph before here) ∙ sym (ap (λ (of : List ItemCollection). most_components graph of) (map_more (λ (one : Named). one.1) list index none less))
