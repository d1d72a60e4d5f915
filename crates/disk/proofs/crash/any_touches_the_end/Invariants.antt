use Rattle.std.proofs.Common.{◌≡◌, ◌≤◌, ℕ, false, length, take}
use Rattle.disk.specs.Crash.{calls_touch}
use Rattle.disk.proofs.crash.any_touches_the_end.Given as goal

abbrev pub invariant-loop-call : goal.invariant-loop-call
invariant-loop-call l = (at : ℕ) → length l.synced ≤ at → calls_touch l.synced l.side (take l.call-index l.calls) at ≡ false
