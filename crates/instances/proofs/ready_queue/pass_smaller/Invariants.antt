use Rattle.std.proofs.Common.{◌≡◌}
use Rattle.std.specs.List.Sorted.{IsPermutation}
use Rattle.std.specs.VecDeque.{deque_capacity}
use Rattle.instances.proofs.ready_queue.pass_smaller.Given as goal

-- the same keys, in another order
abbrev pub invariant-loop-place : goal.invariant-loop-place
invariant-loop-place l = IsPermutation l.fn.queued.items l.queued.items × (deque_capacity l.queued ≡ deque_capacity l.fn.queued)
