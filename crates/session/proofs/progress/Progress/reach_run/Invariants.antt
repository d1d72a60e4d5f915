use Rattle.std.proofs.Common.{◌≤◌, length}
use Rattle.commit.specs.Runs.{NoneRuns}
use Rattle.session.specs.Progress.{KeepsStanding}
use Rattle.session.proofs.progress.Progress.reach_run.Given as goal

-- however the session stood, the lines so far were answered
abbrev pub invariant-lines : goal.invariant-lines
invariant-lines g l = record {
  idle : NoneRuns l.core;
  stands : KeepsStanding g.D.Disk g.O.Sink.target g.O.Sink.has_failed g.O.Sink.contents l.fn.self l.self l.fn.out l.out l.fn.core l.core;
  fewer : length l.self.left.now ≤ length l.fn.self.left.now;
}

abbrev pub decreases-lines : goal.decreases-lines
decreases-lines g l = length l.self.left.now
