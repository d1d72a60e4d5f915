use Rattle.std.proofs.Common.{◌≡◌, take}
use Rattle.disk.specs.Crash.{calls_touch}
use Rattle.disk.specs.Choice.{painted}
use Rattle.disk.proofs.choice.paint.Given as goal

abbrev pub invariant-loop-position : goal.invariant-loop-position
invariant-loop-position l = l.bytes.items ≡ painted (calls_touch l.synced l.side l.since) l.byte 0 (take l.position l.content)
