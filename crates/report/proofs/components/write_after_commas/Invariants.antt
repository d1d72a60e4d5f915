use Rattle.std.proofs.Common.{take}
use Rattle.std.specs.Fmt.{HasWritten, IsPlainFormatter}
use Rattle.report.specs.TableText.{after_commas}
use Rattle.report.proofs.components.write_after_commas.Given as goal

abbrev pub invariant-loop-component : goal.invariant-loop-component
invariant-loop-component g l = IsPlainFormatter l.initial.f → HasWritten g.W.Write.write_str_gives l.initial.f (after_commas (take l.component-index l.components)) l.f
