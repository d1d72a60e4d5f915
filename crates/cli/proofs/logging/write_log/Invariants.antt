use Rattle.std.proofs.Common.{◌≤◌, ◌+◌, ◌-◌, List, length, drop}
use Rattle.terms.specs.Commits.{Commit}
use Rattle.sides.specs.NextCommit.{StandForCommits}
use Rattle.cli.proofs.LogWritten.{AreWritten}
use Rattle.cli.proofs.logging.write_log.Given as goal

abbrev pub invariant-loop-commit : goal.invariant-loop-commit
invariant-loop-commit g l = record {
  numbered : l.number ≤ l.at;
  written : (commits : List Commit) → StandForCommits (drop l.start l.bytes) commits → AreWritten l.graph l.bytes l.at (l.number + 1) (g.W.Write.contents l.initial.out) (g.W.Write.contents l.out) commits;
}

abbrev pub decreases-loop-commit : goal.decreases-loop-commit
decreases-loop-commit g l = length l.bytes - l.at
