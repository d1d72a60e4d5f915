use Rattle.std.proofs.Common.{length, ◌-◌}
use Rattle.std.specs.List.{AllByRecursion}
use Rattle.codec.specs.Spelling.{HasPutNumber}
use Rattle.holdings.specs.Holdings.{image_of}
use Rattle.sides.specs.Replaying.{IsTakenTo}
use Rattle.sides.proofs.replay.take_commits.Given as goal

abbrev pub invariant-loop-payload : goal.invariant-loop-payload
invariant-loop-payload l = record {
  taken : IsTakenTo l.graph l.initial.holdings l.holdings l.journal l.end;
  numbered : AllByRecursion HasPutNumber (image_of l.holdings).items;
}

abbrev pub decreases-loop-payload : goal.decreases-loop-payload
decreases-loop-payload l = length l.journal - l.end
