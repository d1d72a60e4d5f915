use Rattle.std.proofs.Common.{◌≡◌, ◌≤◌, ◌+◌, vec_capacity, vec_len}
use Rattle.pool.proofs.team.start.Given as goal

-- there is room for the threads of all workers that are still to be started, and for all passes, and a deque for each of them
abbrev pub invariant-loop-pass : goal.invariant-loop-pass
invariant-loop-pass g l = record {
  handles : vec_len l.workers + vec_len l.handles ≤ vec_capacity l.handles;
  passes : vec_len l.workers + vec_len l.handles + vec_len l.passes + 1 ≤ vec_capacity l.passes;
  deques : vec_len l.deques ≡ vec_len l.workers;
}

abbrev pub decreases-loop-pass : goal.decreases-loop-pass
decreases-loop-pass g l = vec_len l.workers
