use Rattle.std.proofs.Common.{◌≡◌, map, take}
use Rattle.instances.specs.Known.{fresh_step}
use Rattle.instances.proofs.instances.fresh_steps.Given as goal

abbrev pub invariant-loop-number : goal.invariant-loop-number
invariant-loop-number l = l.steps.items ≡ map fresh_step (take l.number l.prescribers)
