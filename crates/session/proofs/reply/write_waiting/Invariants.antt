use Rattle.std.proofs.Common.{take}
use Rattle.std.specs.Fmt.{HasWritten, IsPlainFormatter}
use Rattle.session.specs.Replies.{waiting_lines}
use Rattle.session.proofs.reply.write_waiting.Given as goal

abbrev pub invariant-loop-entry : goal.invariant-loop-entry
invariant-loop-entry g l = IsPlainFormatter l.initial.f → HasWritten g.W.Write.write_str_gives l.initial.f (waiting_lines l.graph (take l.entry-index l.waiting)) l.f
