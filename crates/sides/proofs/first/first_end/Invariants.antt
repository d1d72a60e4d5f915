use Rattle.std.proofs.Common.{◌≤◌, ℕ, List, length}
use Rattle.journal.specs.Records.{StandsFor}
use Rattle.sides.proofs.FirstRecords.{ArePassed}
use Rattle.sides.proofs.first.first_end.Given as goal

abbrev pub invariant-loop-left : goal.invariant-loop-left
invariant-loop-left l = record {
  within : l.end ≤ length l.bytes;
  passed : (payloads : List (List ℕ)) → StandsFor l.bytes payloads → ArePassed l.bytes l.count l.left l.end payloads;
}

abbrev pub decreases-loop-left : goal.decreases-loop-left
decreases-loop-left l = l.left
