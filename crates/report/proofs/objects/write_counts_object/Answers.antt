use Rattle.std.proofs.Common.{List, ℕ, OnOk, subst}
use Rattle.std.specs.Io.KnownBytes.{Appends}
use Rattle.report.proofs.Lines.{counts_object_written}
use Rattle.report.proofs.objects.write_counts_object.Goals as goal

pub returns-clause-written : goal.returns-clause-written
returns-clause-written g c =
    subst (λ (text : List ℕ). OnOk c.writeln.result (Appends (g.S.Sink.contents c.args.out.now) (g.S.Sink.contents c.writeln.new.self) text)) (counts_object_written c.args.counts) c.writeln.ensures.written
