use Rattle.std.proofs.Common.{List, ℤ, map, take}
use Rattle.std.specs.Io.KnownBytes.{Appends}
use Rattle.terms.specs.declared.name.Addr.{Addr}
use Rattle.commit.specs.Core.{facts, graph}
use Rattle.report.specs.Formats.{spelled}
use Rattle.report.specs.ReportText.{AreItemsIn, item_lines}
use Rattle.report.specs.Sinks.{StaysCalm}
use Rattle.report.proofs.item_lines.write_collections.Given as goal

-- the lines of the collections so far are written
abbrev pub invariant-loop-one : goal.invariant-loop-one
invariant-loop-one g l = record {
  written : (items : List (Addr × ℤ)) × AreItemsIn (facts l.core) (map (λ one. one.1) (take l.one-index l.collections)) items
      × Appends (g.S.Sink.contents l.initial.out) (g.S.Sink.contents l.out) (item_lines (spelled l.spelling (graph l.core)) items);
  calm : StaysCalm g.S.Sink.target g.S.Sink.has_failed l.initial.out l.out;
}
