use Rattle.std.specs.Fmt.{HasWritten, IsPlainFormatter}
use Rattle.report.specs.TableText.{column_names}
use Rattle.report.proofs.components.write_column_names.Given as goal

abbrev pub invariant-loop-before : goal.invariant-loop-before
invariant-loop-before g l = IsPlainFormatter l.initial.f → HasWritten g.W.Write.write_str_gives l.initial.f (column_names l.before) l.f
