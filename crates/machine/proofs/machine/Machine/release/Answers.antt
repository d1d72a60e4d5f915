use Rattle.std.proofs.Common.{◌≡◌, Some, sym, subst, refl}
use Rattle.instances.specs.declared.state.State.TheVariants.{Ready, Running}
use Rattle.machine.specs.declared.memory.Memory.{Memory}
use Rattle.machine.specs.Machine.{Machine, state_of}
use Rattle.machine.proofs.Worked.{moved_is_of}
use Rattle.machine.proofs.machine.Machine.release.Goals as goal

pub invariant_of-self : goal.invariant_of-self
invariant_of-self c =
    let old = c.self.inside.memory in
    let new : Memory = record { items = old.items; instances = c.release.new.self; fault = old.fault } in
    let was = subst (λ (m : Machine). state_of m c.args.task ≡ Some Running) (sym c.self.view_is) c.requires in
    (moved_is_of c.orders_are_total.ensures.instances c.orders_are_total.ensures.instances_tie old new c.args.task Running Ready was c.release.ensures refl refl c.self.inside.graph.value c.self.invariant.0 refl (λ a. refl) (λ a. refl), c.self.invariant.1)
