use Rattle.std.proofs.Common.{◌≡◌, ◌∙◌, Some, IfSome, ap, sym, subst, refl, is_some}
use Rattle.graph.specs.Fits.{HasNoFault}
use Rattle.terms.specs.declared.name.Inst.{Inst}
use Rattle.instances.specs.OfStep.{is_ready}
use Rattle.instances.specs.Known.{total}
use Rattle.instances.specs.declared.state.State.TheVariants.{Ready, Running}
use Rattle.machine.specs.declared.memory.Memory.{Memory}
use Rattle.machine.specs.Machine.{Machine, Moves, facts, state_of}
use Rattle.machine.proofs.Worked.{no_fault_there}
use Rattle.machine.proofs.Parked.{claimed_is_of, claim_tells, none_below, without_fault}
use Rattle.machine.proofs.machine.Machine.claim.Goals as goal

pub returns-then-is_some-clause-some : goal.returns-then-is_some-clause-some
returns-then-is_some-clause-some c below working =
    let none = no_fault_there c.facts_are_told_apart.ensures.one c.self.inside.memory.fault (λ i kind. (subst (λ (m : Machine). HasNoFault (facts m)) (sym c.self.view_is) working) i kind) in
    sym (c.if-is_some.ensures ∙ ap is_some none)

pub invariant_of-self : goal.invariant_of-self
invariant_of-self c =
    let old = c.self.inside.memory in
    let new : Memory = record { items = old.items; instances = c.claim.new.self; fault = old.fault } in
    (claimed_is_of c.orders_are_total.ensures.instances c.orders_are_total.ensures.instances_tie c.self.inside.graph.value old new c.claim.result refl refl (none_below (total is_ready old.instances) c.args.at c.claim.result c.claim.ensures.some c.claim.ensures.none) c.claim.ensures.claimed c.self.invariant.0, c.self.invariant.1)

pub returns-clause-claimed : goal.returns-clause-claimed
returns-clause-claimed c =
    let old = c.self.inside.memory in
    let g = c.self.inside.graph.value in
    let new : Memory = record { items = old.items; instances = c.claim.new.self; fault = old.fault } in
    subst (λ (m : Machine). IfSome c.claim.result (λ (task : Inst). HasNoFault (facts m) × (state_of m task ≡ Some Ready) × Moves m (record { graph = g; memory = new }) task Running)) c.self.view_is
    (claim_tells c.orders_are_total.ensures.instances c.orders_are_total.ensures.instances_tie g old new c.claim.result refl refl (without_fault old.fault (sym c.if-is_some.ensures)) c.claim.ensures.claimed)
