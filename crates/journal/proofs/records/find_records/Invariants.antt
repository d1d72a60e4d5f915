use Rattle.std.proofs.Common.{length, ◌-◌}
use Rattle.journal.specs.WholeRecords.{LeadsTo}
use Rattle.journal.specs.Places.{payloads_at, AreWithin}
use Rattle.journal.proofs.records.find_records.Given as goal

abbrev pub invariant-loop-place : goal.invariant-loop-place
invariant-loop-place l = record {
  within : AreWithin l.bytes l.places.items;
  leads : LeadsTo l.bytes l.end (payloads_at l.bytes l.places.items);
}

abbrev pub decreases-loop-place : goal.decreases-loop-place
decreases-loop-place l = length l.bytes - l.end
