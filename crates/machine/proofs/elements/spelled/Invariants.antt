use Rattle.std.proofs.Common.{◌≡◌, ◌≤◌, ◌-◌, ◌++◌, length, take}
use Rattle.machine.proofs.elements.spelled.Given as goal

abbrev pub invariant-loop-out : goal.invariant-loop-out
invariant-loop-out g l = record {
  within : l.count ≤ length l.out;
  room : length l.out ≡ length l.fn.out;
  gives : g.W.Spelling.rest l.fn.walk ≡ take l.count l.out ++ g.W.Spelling.rest l.walk;
}

abbrev pub decreases-loop-out : goal.decreases-loop-out
decreases-loop-out g l = length l.initial.out - l.count
