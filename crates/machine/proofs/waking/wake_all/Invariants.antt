use Rattle.std.proofs.Common.{take}
use Rattle.instances.specs.Known.{Known}
use Rattle.machine.specs.Waking.{EachWaits, Wakes}
use Rattle.machine.proofs.waking.wake_all.Given as goal

-- the instances that are left wait, and after they are woken all are
abbrev pub invariant-loop-number : goal.invariant-loop-number
invariant-loop-number l =
    EachWaits l.instances (take l.number l.fn.waiters)
    × ((new : Known) → Wakes l.instances new (take l.number l.fn.waiters) → Wakes l.initial.instances new l.fn.waiters)
