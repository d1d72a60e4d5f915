use Rattle.std.proofs.Common.{◌≡◌, Some}
use Rattle.std.specs.List.{AllByRecursion}
use Rattle.instances.specs.declared.state.State.TheVariants.{Running}
use Rattle.machine.specs.Machine.{state_of}
use Rattle.machine.proofs.OnceOnly.{Decides}
use Rattle.machine.proofs.machine.Machine.all_run.Given as goal

abbrev pub invariant-loop-number : goal.invariant-loop-number
invariant-loop-number l = Decides (AllByRecursion (λ instance. state_of l.fn.self instance ≡ Some Running)) l.fn.tasks l.number
