use Rattle.std.proofs.Common.{◌≡◌, ℕ, ◌+◌, ◌≤◌, Some, [], sym, subst, refl}
use Rattle.terms.specs.declared.event.Event.TheVariants.{Done}
use Rattle.terms.specs.declared.name.Inst.{Inst}
use Rattle.terms.specs.Facts.{put_facts}
use Rattle.instances.specs.declared.state.State.TheVariants.{Running}
use Rattle.instances.specs.Known.{room_for, state_at}
use Rattle.machine.specs.declared.memory.Memory.{Memory}
use Rattle.machine.specs.Legal.{IsLegal}
use Rattle.machine.specs.Memory.{MovesOn}
use Rattle.machine.specs.Coming.{Grows}
use Rattle.machine.specs.Machine.{Machine, HasRoom, Takes, facts, state_of}
use Rattle.machine.proofs.Ending.{are_free, with_room}
use Rattle.machine.proofs.TakenEvent.{is_ended, takes}
use Rattle.machine.proofs.Worked.{ended_listed, end_comes}
use Rattle.machine.proofs.machine.Machine.take_end.Goals as goal
use Rattle.machine.specs.Putting.{tags_to}

pub put_all-requires-clause-listed : goal.put_all-requires-clause-listed
put_all-requires-clause-listed c =
    let old = c.self.inside.memory in
    let mid : Memory = record { items = old.items; instances = c.finish.new.self; fault = old.fault } in
    let was = subst (λ (m : Machine). state_of m c.args.task ≡ Some Running) (sym c.self.view_is) c.requires.running in
    ended_listed c.orders_are_total.ensures.instances c.orders_are_total.ensures.instances_tie old mid mid c.args.task was c.finish.ensures refl refl c.self.invariant.0.listed

pub put_all-requires-clause-new : goal.put_all-requires-clause-new
put_all-requires-clause-new c =
    let old = c.self.inside.memory in
    let g = c.self.inside.graph.value in
    let puts = c.args.puts.now in
    let mid : Memory = record { items = old.items; instances = c.finish.new.self; fault = old.fault } in
    let legal = subst (λ (m : Machine). IsLegal m.graph (facts m) (Done c.args.task puts)) (sym c.self.view_is) c.requires.legal in
    let room = subst (λ (m : Machine). HasRoom m puts) (sym c.self.view_is) c.requires.room in
    let gives = legal.event_is_legal.2 in
    let new = legal.event_is_legal.3 in
    let of_graph = (c.given_are_of_graph.ensures g (facts (record { graph = g; memory = old })) c.args.task puts c.self.invariant.0.graph gives).0 in (
      are_free g mid c.self.invariant.0.item_collections puts of_graph new.absent new.distinct,
      with_room g mid c.self.invariant.0.item_collections old refl c.finish.ensures.room puts room,
    )

pub put_all-requires-clause-few : goal.put_all-requires-clause-few
put_all-requires-clause-few c =
    let puts = c.args.puts.now in
    let legal = subst (λ (m : Machine). IsLegal m.graph (facts m) (Done c.args.task puts)) (sym c.self.view_is) c.requires.legal in
    (c.given_are_of_graph.ensures c.self.inside.graph.value (facts (record { graph = c.self.inside.graph.value; memory = c.self.inside.memory })) c.args.task puts c.self.invariant.0.graph legal.event_is_legal.2).1

pub invariant_of-self : goal.invariant_of-self
invariant_of-self c =
    let old = c.self.inside.memory in
    let puts = c.args.puts.now in
    let mid : Memory = record { items = old.items; instances = c.finish.new.self; fault = old.fault } in
    let was = subst (λ (m : Machine). state_of m c.args.task ≡ Some Running) (sym c.self.view_is) c.requires.running in
    let legal = subst (λ (m : Machine). IsLegal m.graph (facts m) (Done c.args.task puts)) (sym c.self.view_is) c.requires.legal in
    let grows = subst (λ (i : Inst). Grows mid c.put_all.new.self (put_facts i 0 puts) [] puts) c.inst-instance.ensures c.put_all.ensures in (
      c.taking_keeps.ensures c.self.inside.graph.value old c.put_all.new.self (Done c.args.task puts) c.self.invariant.0 legal
          (end_comes c.orders_are_total.ensures.instances c.orders_are_total.ensures.instances_tie old mid c.put_all.new.self c.args.task was c.finish.ensures refl refl c.self.invariant.0.listed puts grows),
      c.self.invariant.1,
    )

pub returns : goal.returns
returns c =
    let old = c.self.inside.memory in
    let puts = c.args.puts.now in
    let new = c.put_all.new.self in
    let mid : Memory = record { items = old.items; instances = c.finish.new.self; fault = old.fault } in
    let was = subst (λ (m : Machine). state_of m c.args.task ≡ Some Running) (sym c.self.view_is) c.requires.running in
    let grows = subst (λ (i : Inst). Grows mid new (put_facts i 0 puts) [] puts) c.inst-instance.ensures c.put_all.ensures in
    let comes = end_comes c.orders_are_total.ensures.instances c.orders_are_total.ensures.instances_tie old mid new c.args.task was c.finish.ensures refl refl c.self.invariant.0.listed puts grows in
    subst (λ (m : Machine). Takes m (record { graph = c.self.inside.graph.value; memory = new }) (Done c.args.task puts)) c.self.view_is
    (takes c.facts_are_told_apart.ensures.one c.self.inside.graph.value old new (Done c.args.task puts) comes
    (λ i other. subst (λ s. MovesOn new s (state_at new.instances i)) (c.finish.ensures.others i (λ same. other (sym same))) (grows.states i))
    (is_ended c.facts_are_told_apart.ensures.one old new c.args.task puts comes) grows.item_room (λ k. subst (λ (n : ℕ). n ≤ room_for new.instances k + tags_to k puts) (c.finish.ensures.room k) (grows.tag_room k)))
