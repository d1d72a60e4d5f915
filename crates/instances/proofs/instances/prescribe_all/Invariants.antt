use Rattle.std.proofs.Common.{◌≡◌}
use Rattle.instances.specs.Known.{with_instance}
use Rattle.instances.proofs.Stepwise.{changed}
use Rattle.instances.proofs.instances.prescribe_all.Given as goal

abbrev pub invariant-loop-number : goal.invariant-loop-number
invariant-loop-number l = l.steps.items ≡ changed (with_instance l.fn.tag) l.number l.initial.steps.items
