use Rattle.std.proofs.Common.{◌≡◌, ◌<◌, ◌++◌, ℕ, true, List, IfOk, IfErr, OnOk}
use Rattle.commit.specs.Runs.{NoneRuns}
use Rattle.hub.specs.Kept.{HasRun}
use Rattle.passes.specs.Known.{Made}
use Rattle.passes.specs.Roll.{has_number}
use Rattle.hub.specs.Whole.{IsWhole}
use Rattle.hub.proofs.hub.Hub.close_when_idle.Given as goal

-- what the last try came to
abbrev pub invariant-loop : goal.invariant-loop
invariant-loop g l = record {
  next : (goal.iterator-loop g).can_next l.iterator';
  finished : (goal.iterator-loop g).is_finite l.iterator';
  whole : IfOk l.closed (λ core. (history : List Made) × IsWhole (HasRun g.D.Disk g.J.Naming.opening g.J.Naming.left g.J.Naming.envs) g.J.Naming.opening l.fn.envs.items l.fn.workers.items core history);
  all : OnOk l.closed ((number : ℕ) → number < g.J.Naming.passes → has_number number (l.fn.envs.items ++ l.fn.workers.items) ≡ true);
  idle : IfOk l.closed NoneRuns;
  back : IfErr l.closed (λ not_closed. (not_closed.envs.items ≡ l.fn.envs.items) × (not_closed.workers.items ≡ l.fn.workers.items));
}
