use Rattle.std.proofs.Common.{◌≡◌, ◌≤◌, ◌+◌, [], None, vec_capacity, vec_len}
use Rattle.passes.specs.Roll.{new_passes}
use Rattle.passes.proofs.roll.deal.Given as goal

-- the passes before this one were made
abbrev pub invariant-loop-number : goal.invariant-loop-number
invariant-loop-number g l = record {
  desk : l.desk ≡ record { book = record { history = []; passes = l.first + l.number }; guest = None };
  passes : l.passes.items ≡ new_passes l.first l.number;
  room : (vec_len l.passes ≡ l.number) × (l.count ≤ vec_capacity l.passes);
}
