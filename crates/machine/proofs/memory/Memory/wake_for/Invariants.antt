use Rattle.std.proofs.Common.{drop}
use Rattle.graph.specs.Fits.{addresses}
use Rattle.machine.specs.declared.memory.Memory.{Memory}
use Rattle.machine.specs.Memory.{AreListed}
use Rattle.machine.specs.Waking.{Awakens}
use Rattle.machine.proofs.memory.Memory.wake_for.Given as goal

-- after those that wait for what is left are woken, all are
abbrev pub invariant-loop-place : goal.invariant-loop-place
invariant-loop-place l =
    AreListed l.self
    × ((new : Memory) → Awakens l.self new (addresses (drop l.place l.fn.puts)) → Awakens l.initial.self new (addresses l.fn.puts))
