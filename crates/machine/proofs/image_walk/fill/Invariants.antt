use Rattle.std.proofs.Common.{◌≡◌, ◌≤◌, ◌-◌, ◌++◌, length, take}
use Rattle.machine.proofs.image_walk.fill.Given as goal

abbrev pub invariant-loop-count : goal.invariant-loop-count
invariant-loop-count g l = record {
  within : l.count ≤ length l.out;
  room : length l.out ≡ length l.fn.out;
  gives : g.S.ImageSource.left l.fn.source ≡ take l.count l.out ++ g.S.ImageSource.left l.source;
}

abbrev pub decreases-loop-count : goal.decreases-loop-count
decreases-loop-count g l = length l.initial.out - l.count
