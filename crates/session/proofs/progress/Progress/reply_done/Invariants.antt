use Rattle.std.proofs.Common.{◌≡◌, false, take}
use Rattle.session.specs.Lines.{TellsReplies}
use Rattle.session.specs.Went.{dones}
use Rattle.session.proofs.progress.Progress.reply_done.Given as goal

-- the replies to the commands so far are written
abbrev pub invariant-loop-command : goal.invariant-loop-command
invariant-loop-command g l = record {
  going : l.self.failed ≡ false;
  left : l.self.left.now ≡ l.fn.self.left.now;
  told : TellsReplies g.O.Sink.target g.O.Sink.has_failed g.O.Sink.contents l.fn.graph (take l.command-index l.fn.commands) (dones (take l.command-index l.fn.commands)) l.fn.out l.out l.fn.self.ending l.self.ending false;
}
