use Rattle.std.proofs.Common.{sym, subst}
use Rattle.instances.specs.Known.{Known}
use Rattle.machine.specs.Memory.{IsOf}
use Rattle.machine.proofs.machine.Machine.recall.Goals as goal

pub invariant_of-self : goal.invariant_of-self
invariant_of-self c =
    (subst (λ (known : Known). IsOf c.self.inside.graph.value (record { items = c.self.inside.memory.items; instances = known; fault = c.self.inside.memory.fault })) (sym c.recall.ensures) c.self.invariant.0, c.self.invariant.1)
