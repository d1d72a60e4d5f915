use Rattle.std.proofs.Common.{◌≡◌, ◌∙◌, ◌<◌, ◌++◌, ℕ, ℤ, List, [], length, map, take, get_or, sym, subst}
use Rattle.std.proofs.KnownBytes.{Appends-trans}
use Rattle.std.proofs.lemmas.List.{map_more}
use Rattle.std.proofs.lemmas.List.Concat.{flat_map-append}
use Rattle.std.specs.Io.KnownBytes.{Appends}
use Rattle.terms.specs.declared.name.Addr.{Addr}
use Rattle.terms.specs.declared.name.ItemCollection.{ItemCollection}
use Rattle.graph.specs.Graph.{Graph}
use Rattle.commit.specs.Core.{facts, graph}
use Rattle.report.specs.Formats.{spelled}
use Rattle.report.specs.Got.{Named}
use Rattle.report.specs.ReportText.{AreItemsIn, item_lines, line}
use Rattle.report.proofs.Lines.{one_more}
use Rattle.report.proofs.item_lines.write_collections.Goals as goal

pub loop-one-preserved : goal.loop-one-preserved
loop-one-preserved g c =
    let core = c.args.core.now in
    let list = c.args.collections.now in
    let index = c.loop-one.one-index in
    let of_item = spelled c.args.spelling (graph core) in
    let items = c.items_of.result in
    let before = c.loop-one.invariant.written in
    let calm = c.loop-one.invariant.calm in
    let after = c.in_ok-write_items.ensures.fails in
    let start = g.S.Sink.contents c.args.out.now in
    let middle = g.S.Sink.contents c.loop-one.out in
    let end = g.S.Sink.contents c.write_items.new.out in
    let none : Named = (record { ref_ptr = (0, 0); now = [] }, record { 0 = 0 }) in
    let less : index < length list = c.loop-one-test.true in
    let is : c.deref.result.now ≡ graph core = cc (c.deref.ensures, c.graph.ensures) in
    let written : Appends middle end (item_lines of_item items) =
    subst (λ (of : Graph). Appends middle end (item_lines (spelled c.args.spelling of) items)) is c.in_ok-write_items.ensures.written in
    record {
      written = (
        before.0 ++ items,
        subst (λ (collections : List ItemCollection). AreItemsIn (facts core) collections (before.0 ++ items))
            (sym (map_more (λ (one : Named). one.1) list index none less))
            (one_more (facts core) (map (λ (one : Named). one.1) (take index list)) (get_or list index none).1 before.0 items before.1 c.items_of.ensures),
        subst (λ (text : List ℕ). Appends start end text) (sym (flat_map-append (λ (item : Addr × ℤ). line (of_item item.0 item.1)) before.0 items))
            (Appends-trans start middle end (item_lines of_item before.0) (item_lines of_item items) before.2 written),
      );
      calm = (after.0 ∙ calm.0, after.1 ∙ calm.1);
    }
