use Rattle.std.proofs.Common.{◌-◌, ◌≤◌, length, take}
use Rattle.std.specs.List.{AllByRecursion}
use Rattle.commit.specs.Runs.{NoneRuns}
use Rattle.session.specs.Progress.{KeepsStanding}
use Rattle.session.specs.Went.{Puts}
use Rattle.session.proofs.progress.Progress.put_row.Given as goal

-- however the session stood, the lines so far were answered; and those in front are puts, except for the last ones
abbrev pub invariant-groups : goal.invariant-groups
invariant-groups g l = record {
  idle : NoneRuns l.core;
  stands : KeepsStanding g.D.Disk g.O.Sink.target g.O.Sink.has_failed g.O.Sink.contents l.fn.self l.self l.fn.out l.out l.fn.core l.core;
  fewer : length l.self.left.now ≤ length l.fn.self.left.now;
  puts : AllByRecursion Puts (take (length l.self.left.now - l.behind) l.self.left.now);
}

abbrev pub decreases-groups : goal.decreases-groups
decreases-groups g l = length l.self.left.now
