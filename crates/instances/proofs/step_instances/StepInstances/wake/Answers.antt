use Rattle.std.proofs.Common.{sym, subst, arith}
use Rattle.std.specs.FinMap.{get}
use Rattle.instances.specs.OfStep.{IsWaiting, Moves}
use Rattle.instances.specs.declared.state.State.TheVariants.{Ready}
use Rattle.instances.specs.Queue.{capacity, keys}
use Rattle.instances.proofs.Changes.{in_any_order, waiting_has_room, waits_not_ready, wakes, moves, seen_of}
use Rattle.instances.proofs.Tallied.{one_less, one_waits}
use Rattle.instances.proofs.step_instances.StepInstances.wake.Goals as goal

pub put_in_order-requires : goal.put_in_order-requires
put_in_order-requires c =
    let waits = subst (λ seen. IsWaiting (get seen.states c.args.key)) (sym c.self.view_is) c.requires in
    omega (arith, waiting_has_room _ c.args.key _ _ _ c.self.invariant.0 waits)

pub invariant_of-self : goal.invariant_of-self
invariant_of-self c =
    let waits = subst (λ seen. IsWaiting (get seen.states c.args.key)) (sym c.self.view_is) c.requires in (
      rw (c.put_in_order.ensures.capacity, c.wake.ensures) (in_any_order _ _ _ _ _ (wakes _ c.args.key _ _ _ c.self.invariant.0 waits) c.put_in_order.ensures.keys),
      rw c.wake.ensures (one_less _ c.args.key c.self.inside.waiting c.self.invariant.1 waits),
    )

pub overflow_sub-self : goal.overflow_sub-self
overflow_sub-self c =
    let waits = subst (λ seen. IsWaiting (get seen.states c.args.key)) (sym c.self.view_is) c.requires in
    one_waits _ c.args.key c.self.inside.waiting c.self.invariant.1 waits

pub returns : goal.returns
returns c =
    let waits = subst (λ seen. IsWaiting (get seen.states c.args.key)) (sym c.self.view_is) c.requires in
    subst (λ room. Moves c.args.self.now (seen_of c.wake.new.self room) c.args.key Ready) (sym c.put_in_order.ensures.capacity)
    (moves c.self.inside.states c.wake.new.self (capacity c.self.inside.ready) c.args.self.now c.args.key c.self.view_is Ready (keys c.self.inside.ready) c.self.inside.running c.self.invariant.0
    (waits_not_ready (get c.self.inside.states.items c.args.key) waits).2 c.wake.ensures)
