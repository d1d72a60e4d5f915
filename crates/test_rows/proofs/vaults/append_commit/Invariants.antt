use Rattle.std.specs.List.{AllByRecursion}
use Rattle.codec.specs.Spelling.{HasFewPuts}
use Rattle.test_rows.proofs.vaults.append_commit.Given as goal

abbrev pub invariant-loop-part : goal.invariant-loop-part
invariant-loop-part l =
    (goal.iterator-loop-part).can_next l.part-iterator
    × (goal.iterator-loop-part).is_finite l.part-iterator
    × AllByRecursion HasFewPuts l.commit.items
