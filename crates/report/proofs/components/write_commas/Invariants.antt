use Rattle.std.specs.Fmt.{HasWritten, IsPlainFormatter}
use Rattle.report.specs.TableText.{commas}
use Rattle.report.proofs.components.write_commas.Given as goal

abbrev pub invariant-loop-cell : goal.invariant-loop-cell
invariant-loop-cell g l = IsPlainFormatter l.initial.f → HasWritten g.W.Write.write_str_gives l.initial.f (commas l._cell) l.f
