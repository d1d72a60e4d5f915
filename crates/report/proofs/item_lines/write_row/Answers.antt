use Rattle.std.proofs.Common.{List, ℕ, OnOk, subst, w64}
use Rattle.std.proofs.lemmas.Int.{to_z-of_z}
use Rattle.std.specs.Io.KnownBytes.{Appends}
use Rattle.report.proofs.Lines.{row_written}
use Rattle.report.proofs.item_lines.write_row.Goals as goal

pub returns-clause-written : goal.returns-clause-written
returns-clause-written g c =
    subst (λ (text : List ℕ). OnOk c.writeln.result (Appends (g.S.Sink.contents c.args.out.now) (g.S.Sink.contents c.writeln.new.self) text))
    (row_written c.args.graph.now c.args.columns c.args.address c.args.value _ c.name_of-name.result.now c.name_of-name.ensures (to_z-of_z w64 c.args.value c.ranges.value)) c.writeln.ensures.written
