use Rattle.std.proofs.Common.{◌≡◌, map, subst}
use Rattle.std.proofs.lemmas.Result.{on_ok_weaker}
use Rattle.std.specs.Io.KnownBytes.{Appends}
use Rattle.graph.specs.Graph.{Graph}
use Rattle.commit.specs.Core.{facts, graph}
use Rattle.report.specs.Got.{Named}
use Rattle.report.specs.Named.{item_text}
use Rattle.report.specs.ReportText.{counts_text, fault_line, stopped_text}
use Rattle.report.proofs.Reports.{are_lines}
use Rattle.report.proofs.report.write_lines.Goals as goal

pub returns-clause-written : goal.returns-clause-written
returns-clause-written g c =
    let core = c.args.core.now in
    let collections = map (λ (one : Named). one.1) c.args.collections.now in
    let again : c.deref.result.now ≡ graph core = cc (c.deref.ensures, c.graph.ensures) in
    let fault = c.fault-fault.result in
    let after_items = g.S.Sink.contents c.write_collections.new.out in
    let after_counts = g.S.Sink.contents c.write_counts.new.out in
    let end = g.S.Sink.contents c.write_fault.new.out in
    on_ok_weaker c.write_fault.result
    (λ stopped. are_lines (item_text (graph core)) counts_text (stopped_text (graph core)) (graph core) (facts core) collections c.counts.result fault (g.S.Sink.contents c.args.out.now) after_items after_counts end
    c.requires c.in_ok-write_collections.ensures.written c.counts.ensures c.in_ok-write_counts.ensures.written c.fault-fault.ensures
    (subst (λ (of : Graph). Appends after_counts end (fault_line (stopped_text of) fault)) again stopped))
    c.write_fault.ensures.written
