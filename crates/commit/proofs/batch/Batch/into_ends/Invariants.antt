use Rattle.std.proofs.Common.{◌≡◌, ◌≤◌, ◌+◌, ◌++◌, drop, length}
use Rattle.std.specs.Vec.{vec_capacity}
use Rattle.commit.specs.Batch.{ends_by}
use Rattle.commit.proofs.batch.Batch.into_ends.Given as goal

-- the ends so far, and those of the outcomes that are left, are all of them
abbrev pub invariant-loop-outcome : goal.invariant-loop-outcome
invariant-loop-outcome l =
    (l.ends.items ++ ends_by (drop (length l.ends.items) l.tasks) l.outcome-iterator.rest.items ≡ ends_by l.tasks l.initial.outcome-iterator.rest.items)
    × (length l.ends.items + length l.outcome-iterator.rest.items ≡ length l.tasks) × (length l.tasks ≤ vec_capacity l.ends)
