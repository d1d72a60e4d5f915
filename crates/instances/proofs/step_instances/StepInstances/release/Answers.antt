use Rattle.std.proofs.Common.{◌∙◌, ap, sym, subst, refl, is_some, arith}
use Rattle.std.specs.FinMap.{get}
use Rattle.instances.specs.OfStep.{Moves, is_waiting, one_if}
use Rattle.instances.specs.declared.state.State.TheVariants.{Ready, Running}
use Rattle.instances.specs.Queue.{capacity, keys}
use Rattle.instances.proofs.Changes.{one_runs, has_room, comes_back, in_any_order, moves, seen_of}
use Rattle.instances.proofs.Tallied.{as_many_wait}
use Rattle.instances.proofs.step_instances.StepInstances.release.Goals as goal

pub put_in_order-requires : goal.put_in_order-requires
put_in_order-requires c =
    omega (arith, has_room _ c.args.key _ _ _ c.self.invariant.0 Running (ap (λ seen. get seen.states c.args.key) c.self.view_is ∙ c.requires) refl)

pub overflow_sub-self : goal.overflow_sub-self
overflow_sub-self c = one_runs _ c.args.key _ _ _ c.self.invariant.0 (ap (λ seen. get seen.states c.args.key) c.self.view_is ∙ c.requires)

pub invariant_of-self : goal.invariant_of-self
invariant_of-self c =
    let runs = ap (λ seen. get seen.states c.args.key) c.self.view_is ∙ c.requires in (
      rw (c.put_in_order.ensures.capacity, c.set.ensures) (in_any_order _ _ _ _ _ (comes_back _ c.args.key _ _ _ c.self.invariant.0 runs) c.put_in_order.ensures.keys),
      rw c.set.ensures (as_many_wait _ c.args.key Ready c.self.inside.waiting c.self.invariant.1 (ap (one_if is_waiting) runs) refl),
    )

pub returns : goal.returns
returns c =
    subst (λ room. Moves c.args.self.now (seen_of c.set.new.self room) c.args.key Ready) (sym c.put_in_order.ensures.capacity)
    (moves c.self.inside.states c.set.new.self (capacity c.self.inside.ready) c.args.self.now c.args.key c.self.view_is Ready (keys c.self.inside.ready) c.self.inside.running c.self.invariant.0
    (ap is_some (ap (λ seen. get seen.states c.args.key) c.self.view_is ∙ c.requires)) c.set.ensures)
