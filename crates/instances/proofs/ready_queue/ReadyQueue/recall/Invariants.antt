use Rattle.std.proofs.Common.{◌≡◌, ◌≤◌, length}
use Rattle.std.specs.List.Sorted.{IsPermutation}
use Rattle.instances.specs.Queue.{capacity, keys}
use Rattle.instances.proofs.ready_queue.ReadyQueue.recall.Given as goal

-- the same keys, in some order, and there is room for them
abbrev pub invariant-loop : goal.invariant-loop
invariant-loop l = IsPermutation (keys l.initial.self) (keys l.self) × (capacity l.self ≡ capacity l.initial.self) × (length (keys l.self) ≤ capacity l.self)
