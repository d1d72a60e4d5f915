use Rattle.std.proofs.Common.{rules, ◌∙◌, ◌++◌, ◌∷◌, [], ap, sym, subst, append-nil, append_assoc}
use Rattle.std.proofs.KnownBytes.{Appends-trans}
use Rattle.std.proofs.lemmas.List.Concat.{flat_map-append}
use Rattle.std.specs.Io.KnownBytes.{Appends}
use Rattle.report.specs.Formats.{spelled}
use Rattle.report.specs.ReportText.{item_lines, line}
use Rattle.report.proofs.item_lines.write_items.Goals as goal

pub loop-address-preserved : goal.loop-address-preserved
loop-address-preserved g c =
    let of_item = spelled c.args.spelling c.args.graph.now in
    let here = line (of_item c.in-Some.address c.in-Some.value) in
    let lines = flat_map-append (λ item. line (of_item item.0 item.1)) c.loop-address.yielded ((c.in-Some.address, c.in-Some.value) ∷ []) ∙ ap (λ text. item_lines of_item c.loop-address.yielded ++ text) (append-nil here) in
    let now : Appends (g.S.Sink.contents c.loop-address.out) (g.S.Sink.contents c.write_item.new.out) here = search rules in
    record {
      written = subst (Appends (g.S.Sink.contents c.args.out.now) (g.S.Sink.contents c.write_item.new.out)) (sym lines)
          (Appends-trans (g.S.Sink.contents c.args.out.now) (g.S.Sink.contents c.loop-address.out) (g.S.Sink.contents c.write_item.new.out) (item_lines of_item c.loop-address.yielded) here c.loop-address.invariant.written now);
      left = c.loop-address.invariant.left ∙ ap (λ rest. c.loop-address.yielded ++ rest) c.in-Some.ensures.steps ∙ sym (append_assoc c.loop-address.yielded ((c.in-Some.address, c.in-Some.value) ∷ []) c.next.new.self);
      calm = (c.in_ok-write_item.ensures.fails.0 ∙ c.loop-address.invariant.calm.0, c.in_ok-write_item.ensures.fails.1 ∙ c.loop-address.invariant.calm.1);
    }
