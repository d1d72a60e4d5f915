use Rattle.std.proofs.Common.{◌≡◌, ◌+◌, ◌<◌, ◌^◌, length}
use Rattle.instances.specs.AllInstances.{left_of}
use Rattle.instances.proofs.instance_walk.InstanceWalkIterator.next.Given as goal

-- the instances that are left are the same as before
abbrev pub invariant-loop-key : goal.invariant-loop-key
invariant-loop-key l =
    (left_of l.self-inside.number l.self-inside.entries l.self-inside.steps.now ≡ left_of l.initial.self-inside.number l.initial.self-inside.entries l.initial.self-inside.steps.now)
    × (l.self-inside.number + length l.self-inside.steps.now < 2 ^ 16)

abbrev pub decreases-loop-key : goal.decreases-loop-key
decreases-loop-key l = length l.self-inside.steps.now
