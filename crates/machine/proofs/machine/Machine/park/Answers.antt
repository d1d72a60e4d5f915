use Rattle.std.proofs.Common.{◌≡◌, ◌∙◌, Some, ap, sym, subst, refl, true, is_some, None, inl, inr}
use Rattle.graph.specs.Fits.{IsAbsent}
use Rattle.items.specs.Held.{item_at}
use Rattle.instances.specs.declared.state.State.TheVariants.{Ready, Running}
use Rattle.machine.specs.declared.memory.Memory.{Memory}
use Rattle.machine.specs.Legal.{Needs}
use Rattle.holdings.specs.ImageLaws.{is_item}
use Rattle.machine.specs.Memory.{waits_at}
use Rattle.machine.specs.Machine.{LooksAgain, Machine, Moves, facts, state_of}
use Rattle.machine.proofs.Worked.{moved_is_of, moves_of}
use Rattle.machine.proofs.Parked.{either, if_err, if_ok, no_item, parked_is_of, parked_moves}
use Rattle.machine.proofs.TakenEvent.{absent_of, there_of}
use Rattle.machine.proofs.machine.Machine.park.Goals as goal

pub invariant_of-self : goal.invariant_of-self
invariant_of-self c =
    let old = c.self.inside.memory in
    let new : Memory = record { items = old.items; instances = c.release.new.self; fault = old.fault } in
    let was = subst (λ (m : Machine). state_of m c.args.task ≡ Some Running) (sym c.self.view_is) c.requires.running in
    (moved_is_of c.orders_are_total.ensures.instances c.orders_are_total.ensures.instances_tie old new c.args.task Running Ready was c.release.ensures refl refl c.self.inside.graph.value c.self.invariant.0 refl (λ a. refl) (λ a. refl), c.self.invariant.1)

pub returns-then-is_some-clause-ok : goal.returns-then-is_some-clause-ok
returns-then-is_some-clause-ok c =
    let old = c.self.inside.memory in
    let g = c.self.inside.graph.value in
    let new : Memory = record { items = old.items; instances = c.release.new.self; fault = old.fault } in
    let was = subst (λ (m : Machine). state_of m c.args.task ≡ Some Running) (sym c.self.view_is) c.requires.running in
    let there : is_some (item_at old.items c.args.addr) ≡ true = ap is_some (sym c.get.ensures) ∙ sym c.if-is_some.ensures in
    subst (λ (m : Machine). LooksAgain m (record { graph = g; memory = new }) c.args.task c.args.addr) c.self.view_is
    (inr (
      there_of c.facts_are_told_apart.ensures.one old c.args.addr there,
      moves_of c.orders_are_total.ensures.instances c.orders_are_total.ensures.instances_tie old new c.args.task Running Ready was c.release.ensures refl refl g refl,
    ))

pub park-requires-clause-running : goal.park-requires-clause-running
park-requires-clause-running c = subst (λ (m : Machine). state_of m c.args.task ≡ Some Running) (sym c.self.view_is) c.requires.running

pub park-requires-clause-unlisted : goal.park-requires-clause-unlisted
park-requires-clause-unlisted c =
    let was = subst (λ (m : Machine). state_of m c.args.task ≡ Some Running) (sym c.self.view_is) c.requires.running in
    c.self.invariant.0.listed.listed c.args.task c.args.addr ∙ ap (waits_at c.args.addr) was

pub invariant_of-self-2 : goal.invariant_of-self-2
invariant_of-self-2 c =
    let old = c.self.inside.memory in
    let g = c.self.inside.graph.value in
    let new = c.park.new.self in
    let total = c.orders_are_total.ensures.instances in
    let tie = c.orders_are_total.ensures.instances_tie in
    let was = subst (λ (m : Machine). state_of m c.args.task ≡ Some Running) (sym c.self.view_is) c.requires.running in
    let needs = subst (λ (m : Machine). IsAbsent (facts m) c.args.addr → Needs m.graph (facts m) c.args.task c.args.addr) (sym c.self.view_is) c.requires.needs in
    let none : item_at old.items c.args.addr ≡ None = sym c.get.ensures ∙ no_item c.get.result (sym c.if-is_some.ensures) in (
      either c.park.result c.park.ensures.ok c.park.ensures.refused
          (λ ok. parked_is_of total tie old new c.args.task c.args.addr was ok.0 ok.1 c.park.ensures.fault none c.self.invariant.0.listed g c.self.invariant.0 (needs (λ value by. ap (λ o. is_item o value by) none)))
          (λ refused. moved_is_of total tie old new c.args.task Running Ready was refused.0 refused.1 c.park.ensures.fault g c.self.invariant.0 refl (λ a. refl) (λ a. refl)),
      c.self.invariant.1,
    )

pub returns-clause-ok : goal.returns-clause-ok
returns-clause-ok c =
    let old = c.self.inside.memory in
    let g = c.self.inside.graph.value in
    let new = c.park.new.self in
    let was = subst (λ (m : Machine). state_of m c.args.task ≡ Some Running) (sym c.self.view_is) c.requires.running in
    let none : item_at old.items c.args.addr ≡ None = sym c.get.ensures ∙ no_item c.get.result (sym c.if-is_some.ensures) in
    if_ok c.park.result
    (λ ok. subst (λ (m : Machine). LooksAgain m (record { graph = g; memory = new }) c.args.task c.args.addr) c.self.view_is
    (inl (
      absent_of old c.args.addr none,
      parked_moves c.orders_are_total.ensures.instances c.orders_are_total.ensures.instances_tie old new c.args.task c.args.addr was ok.0 ok.1 c.park.ensures.fault none c.self.invariant.0.listed g,
    ))) c.park.ensures.ok

pub returns-clause-refused : goal.returns-clause-refused
returns-clause-refused c =
    let old = c.self.inside.memory in
    let g = c.self.inside.graph.value in
    let new = c.park.new.self in
    let was = subst (λ (m : Machine). state_of m c.args.task ≡ Some Running) (sym c.self.view_is) c.requires.running in
    let none : item_at old.items c.args.addr ≡ None = sym c.get.ensures ∙ no_item c.get.result (sym c.if-is_some.ensures) in
    if_err c.park.result
    (λ refused. subst (λ (m : Machine). IsAbsent (facts m) c.args.addr × Moves m (record { graph = g; memory = new }) c.args.task Ready) c.self.view_is (
      λ value by. ap (λ o. is_item o value by) none,
      moves_of c.orders_are_total.ensures.instances c.orders_are_total.ensures.instances_tie old new c.args.task Running Ready was refused.0 refused.1 c.park.ensures.fault g refl,
    )) c.park.ensures.refused
