use Rattle.std.proofs.Common.{◌≤◌, drop, length}
use Rattle.terms.specs.Sets.{stated}
use Rattle.graph.specs.Fits.{IsAbsent}
use Rattle.commit.specs.Batch.{ends_by}
use Rattle.commit.proofs.batch.Batch.item.Given as goal

-- the ends that were looked at state no item there
abbrev pub invariant-loop-left : goal.invariant-loop-left
invariant-loop-left l =
    (l.left ≤ length l.self-inside.outcomes.items) × IsAbsent (stated (ends_by (drop l.left l.self-inside.tasks) (drop l.left l.self-inside.outcomes.items))) l.fn.address

abbrev pub decreases-loop-left : goal.decreases-loop-left
decreases-loop-left l = l.left
