use Rattle.std.proofs.Common.{take}
use Rattle.std.specs.Fmt.{HasWritten, IsPlainFormatter}
use Rattle.report.specs.Named.{more_components}
use Rattle.report.proofs.named.write_more.Given as goal

abbrev pub invariant-loop-component : goal.invariant-loop-component
invariant-loop-component g l = IsPlainFormatter l.initial.f → HasWritten g.W.Write.write_str_gives l.initial.f (more_components (take l.component-index l.components)) l.f
