use Rattle.std.proofs.Common.{◌≡◌, ◌≤◌, ◌+◌, true, vec_capacity, vec_len}
use Rattle.pool.specs.Worked.{OneSawFull}
use Rattle.pool.proofs.team.join_all.Given as goal

-- there is room for the passes of all threads that are still to be joined
abbrev pub invariant-loop-handle : goal.invariant-loop-handle
invariant-loop-handle g l = record {
  room : vec_len l.handles + vec_len l.passes ≤ vec_capacity l.passes;
  asked : l.causes.asked ≡ true → g.P.Probe.may_stop ≡ true;
  full : l.causes.full ≡ true → OneSawFull g.J.Naming.opening l.passes.items;
}

abbrev pub decreases-loop-handle : goal.decreases-loop-handle
decreases-loop-handle g l = vec_len l.handles
