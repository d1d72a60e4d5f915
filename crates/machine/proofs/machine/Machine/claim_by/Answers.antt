use Rattle.std.proofs.Common.{◌≡◌, ◌<◌, Some, IfSome, ap, subst, sym, refl, arith}
use Rattle.std.proofs.lemmas.Option.{IfSome_then}
use Rattle.graph.specs.Fits.{HasNoFault}
use Rattle.terms.specs.declared.name.Inst.{Inst}
use Rattle.instances.specs.OfStep.{is_ready, one_if}
use Rattle.instances.specs.declared.state.State.TheVariants.{Ready, Running}
use Rattle.machine.specs.declared.memory.Memory.{Memory}
use Rattle.machine.specs.Machine.{Machine, Moves, facts, ready_count, state_of}
use Rattle.machine.proofs.Parked.{claimed_is_of, claim_tells, without_fault}
use Rattle.machine.proofs.machine.Machine.claim_by.Goals as goal

pub invariant_of-self : goal.invariant_of-self
invariant_of-self c =
    let old = c.self.inside.memory in
    let new : Memory = record { items = old.items; instances = c.claim_by.new.self; fault = old.fault } in
    (claimed_is_of c.orders_are_total.ensures.instances c.orders_are_total.ensures.instances_tie c.self.inside.graph.value old new c.claim_by.result refl refl c.claim_by.ensures.none c.claim_by.ensures.claimed c.self.invariant.0, c.self.invariant.1)

pub returns-clause-below : goal.returns-clause-below
returns-clause-below c =
    subst (λ (m : Machine). IfSome c.claim_by.result (λ (task : Inst). 0 < ready_count m)) c.self.view_is
    (IfSome_then c.claim_by.result c.claim_by.ensures.claimed (λ task it. omega (arith, it.1.counts is_ready, ap (one_if is_ready) it.0)))

pub returns-clause-claimed : goal.returns-clause-claimed
returns-clause-claimed c =
    let old = c.self.inside.memory in
    let g = c.self.inside.graph.value in
    let new : Memory = record { items = old.items; instances = c.claim_by.new.self; fault = old.fault } in
    subst (λ (m : Machine). IfSome c.claim_by.result (λ (task : Inst). HasNoFault (facts m) × (state_of m task ≡ Some Ready) × Moves m (record { graph = g; memory = new }) task Running)) c.self.view_is
    (claim_tells c.orders_are_total.ensures.instances c.orders_are_total.ensures.instances_tie g old new c.claim_by.result refl refl (without_fault old.fault (sym c.if-is_some.ensures)) c.claim_by.ensures.claimed)
