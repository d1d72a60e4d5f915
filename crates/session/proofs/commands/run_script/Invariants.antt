use Rattle.std.proofs.Common.{length}
use Rattle.commit.specs.Core.{is_halted}
use Rattle.commit.specs.Runs.{NoneRuns}
use Rattle.pool.specs.Driver.{may_be_asked, may_spawn}
use Rattle.session.specs.Answers.{drive_of}
use Rattle.session.specs.Progress.{StandsAt}
use Rattle.session.proofs.commands.run_script.Given as goal

abbrev pub invariant-loop-core : goal.invariant-loop-core
invariant-loop-core g l = record {
  idle : NoneRuns l.core;
  stands : StandsAt g.D.Disk g.O.Sink.target g.O.Sink.has_failed g.O.Sink.contents (drive_of l.limit (may_be_asked g.P.Probe.may_stop l.driver) (may_spawn l.driver) (is_halted l.initial.core)) l.commands l.initial.out l.out l.initial.core l.core l.progress;
}

abbrev pub decreases-loop-core : goal.decreases-loop-core
decreases-loop-core g l = length l.progress.left.now
