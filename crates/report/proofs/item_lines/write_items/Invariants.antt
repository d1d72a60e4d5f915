use Rattle.std.proofs.Common.{◌≡◌, ◌++◌}
use Rattle.std.specs.Io.KnownBytes.{Appends}
use Rattle.report.specs.Formats.{spelled}
use Rattle.report.specs.ReportText.{item_lines}
use Rattle.report.specs.Sinks.{StaysCalm}
use Rattle.report.proofs.item_lines.write_items.Given as goal

-- the lines of the items so far are written, and the others are left
abbrev pub invariant-loop-address : goal.invariant-loop-address
invariant-loop-address g l = record {
  written : Appends (g.S.Sink.contents l.initial.out) (g.S.Sink.contents l.out) (item_lines (spelled l.spelling l.graph) l.yielded);
  left : l.initial.address-iterator ≡ l.yielded ++ l.address-iterator;
  calm : StaysCalm g.S.Sink.target g.S.Sink.has_failed l.initial.out l.out;
}
