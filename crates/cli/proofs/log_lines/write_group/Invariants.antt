use Rattle.std.proofs.Common.{◌+◌, drop}
use Rattle.cli.specs.LogText.{group_lines}
use Rattle.cli.proofs.LogWritten.{IsWritten}
use Rattle.cli.proofs.log_lines.write_group.Given as goal

abbrev pub invariant-loop-index : goal.invariant-loop-index
invariant-loop-index g l = IsWritten (g.W.Write.contents l.initial.out) (g.W.Write.contents l.out) (group_lines l.graph l.number (l.index + 1) (drop l.index l.events)) (group_lines l.graph l.number 1 l.events)
