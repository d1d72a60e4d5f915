use Rattle.std.proofs.Common.{◌≡◌, ◌+◌, ◌<◌, ◌^◌, length}
use Rattle.maps.specs.Numbered.{left_of}
use Rattle.maps.proofs.walk.WalkIterator.next.Given as goal

-- the entries that are left are the same as before
abbrev pub invariant-loop-key : goal.invariant-loop-key
invariant-loop-key g l =
    (left_of l.self-inside.number l.self-inside.entries l.self-inside.collections.now ≡ left_of l.initial.self-inside.number l.initial.self-inside.entries l.initial.self-inside.collections.now)
    × (l.self-inside.number + length l.self-inside.collections.now < 2 ^ 16)

abbrev pub decreases-loop-key : goal.decreases-loop-key
decreases-loop-key g l = length l.self-inside.collections.now
