use Rattle.std.proofs.Common.{Option, sym, subst}
use Rattle.std.specs.Io.KnownBytes.{Appends}
use Rattle.terms.specs.declared.name.Inst.{Inst}
use Rattle.terms.specs.declared.fault.FaultKind.{FaultKind}
use Rattle.report.specs.ReportText.{fault_line, stopped_text}
use Rattle.report.proofs.Lines.{fault_written}
use Rattle.report.proofs.report.write_fault.Goals as goal

pub returns-in_ok-writeln-clause-written : goal.returns-in_ok-writeln-clause-written
returns-in_ok-writeln-clause-written g c =
    let written = fault_written c.args.graph.now c.in-Some.instance c.in-Some.kind c.number-number.result c.number-number.ensures.number in
    subst (λ (fault : Option (Inst × FaultKind)). Appends (g.S.Sink.contents c.args.out.now) (g.S.Sink.contents c.writeln.new.self) (fault_line (stopped_text c.args.graph.now) fault)) (sym c.in-Some.is)
    (subst (Appends (g.S.Sink.contents c.args.out.now) (g.S.Sink.contents c.writeln.new.self)) written c.in_ok-writeln.ensures.written)
