use Rattle.std.proofs.Common.{◌≡◌, Some, ap, sym, subst, refl, arith}
use Rattle.terms.specs.declared.event.Event.TheVariants.{Stopped}
use Rattle.terms.specs.declared.name.Inst.{Inst}
use Rattle.instances.specs.declared.state.State.TheVariants.{Running}
use Rattle.machine.specs.declared.memory.Memory.{Memory}
use Rattle.machine.specs.Legal.{IsLegal}
use Rattle.machine.specs.Machine.{Machine, Takes, facts, state_of}
use Rattle.machine.proofs.TakenEvent.{takes}
use Rattle.machine.proofs.Worked.{stop_comes, stays_on}
use Rattle.machine.proofs.machine.Machine.take_fault.Goals as goal

pub invariant_of-self : goal.invariant_of-self
invariant_of-self c =
    let old = c.self.inside.memory in
    let new : Memory = record { items = old.items; instances = c.release.new.self; fault = Some (c.inst.result, c.args.kind) } in
    let was = subst (λ (m : Machine). state_of m c.args.task ≡ Some Running) (sym c.self.view_is) c.requires.running in
    let legal = subst (λ (m : Machine). IsLegal m.graph (facts m) (Stopped c.args.task c.args.kind)) (sym c.self.view_is) c.requires.legal in (
      c.taking_keeps.ensures c.self.inside.graph.value old new (Stopped c.args.task c.args.kind) c.self.invariant.0 legal
          (stop_comes c.facts_are_told_apart.ensures.one c.orders_are_total.ensures.instances c.orders_are_total.ensures.instances_tie old new c.args.task c.args.kind was c.release.ensures refl
          (ap (λ (i : Inst). Some (i, c.args.kind)) c.inst.ensures) legal.working c.self.invariant.0.listed),
      c.self.invariant.1,
    )

pub returns : goal.returns
returns c =
    let old = c.self.inside.memory in
    let new : Memory = record { items = old.items; instances = c.release.new.self; fault = Some (c.inst.result, c.args.kind) } in
    let was = subst (λ (m : Machine). state_of m c.args.task ≡ Some Running) (sym c.self.view_is) c.requires.running in
    let legal = subst (λ (m : Machine). IsLegal m.graph (facts m) (Stopped c.args.task c.args.kind)) (sym c.self.view_is) c.requires.legal in
    let comes = stop_comes c.facts_are_told_apart.ensures.one c.orders_are_total.ensures.instances c.orders_are_total.ensures.instances_tie old new c.args.task c.args.kind was c.release.ensures refl
    (ap (λ (i : Inst). Some (i, c.args.kind)) c.inst.ensures) legal.working c.self.invariant.0.listed in
    subst (λ (m : Machine). Takes m (record { graph = c.self.inside.graph.value; memory = new }) (Stopped c.args.task c.args.kind)) c.self.view_is
    (takes c.facts_are_told_apart.ensures.one c.self.inside.graph.value old new (Stopped c.args.task c.args.kind) comes
    (λ i other. stays_on old new c.self.invariant.0.listed refl i (c.release.ensures.others i (λ same. other (sym same))))
    c.release.ensures.here (λ k. omega arith) (λ k. (let same = c.release.ensures.room k in omega (arith, same))))
