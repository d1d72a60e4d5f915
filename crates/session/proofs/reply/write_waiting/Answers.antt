use Rattle.std.proofs.Common.{◌+◌, ◌++◌, ◌∙◌, ap, refl, sym, take}
use Rattle.std.proofs.lemmas.Grind.{put_two}
use Rattle.terms.specs.declared.name.Addr.{Addr}
use Rattle.terms.specs.declared.name.Inst.{Inst}
use Rattle.session.specs.Replies.{waiting_lines, waiting_text}
use Rattle.report.specs.ReportText.{line}
use Rattle.session.proofs.Lines.{one_more}
use Rattle.session.proofs.reply.write_waiting.Goals as goal

pub loop-entry-preserved : goal.loop-entry-preserved
loop-entry-preserved g c plain =
    let graph = c.args.graph.now in
    let list = c.args.waiting.now in
    let place = c.loop-entry.entry-index in
    let before = c.loop-entry.invariant plain in
    let after = c.in_ok-writeln.ensures.writes before.plain refl in
    put_two g.W.Write.write_str_gives c.args.f.now c.loop-entry.f c.writeln.new.self (waiting_lines graph (take place list)) (line (waiting_text graph c.entry-item.result)) (waiting_lines graph (take (place + 1) list)) before after
    (ap (λ (entry : Inst × Addr). waiting_lines graph (take place list) ++ line (waiting_text graph entry)) c.entry-item.is
    ∙ sym (one_more (λ entry. line (waiting_text graph entry)) list place c.entry-item.result c.loop-entry-test.true))
