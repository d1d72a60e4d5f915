use Rattle.std.proofs.Common.{◌≡◌, ◌<◌, ℕ, false}
use Rattle.std.specs.Prelude.{slice_get}
use Rattle.disk.specs.Crash.{calls_touch}
use Rattle.disk.proofs.crash.may_leave.Given as goal

abbrev pub invariant-loop-position : goal.invariant-loop-position
invariant-loop-position l = (at : ℕ) → at < l.position → calls_touch l.synced l.side l.since at ≡ false → slice_get l.bytes at ≡ slice_get l.synced at
