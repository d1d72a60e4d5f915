use Rattle.std.proofs.Common.{◌∙◌, ap, sym, subst, refl, is_some}
use Rattle.std.specs.FinMap.{get}
use Rattle.instances.specs.OfStep.{Moves, is_waiting, one_if}
use Rattle.instances.specs.declared.state.State.TheVariants.{Running}
use Rattle.instances.specs.Queue.{capacity, keys}
use Rattle.instances.proofs.Changes.{is_one, starts, moves, seen_of}
use Rattle.instances.proofs.Tallied.{as_many_wait}
use Rattle.instances.proofs.step_instances.StepInstances.claim.Goals as goal

pub set-requires-clause-there : goal.set-requires-clause-there
set-requires-clause-there c = ap is_some (is_one _ c.in_ok-key.key _ _ _ c.self.invariant.0 _ c.in_ok-key.ensures.taken)

pub invariant_of-self-2 : goal.invariant_of-self-2
invariant_of-self-2 c = (
  rw (c.set.ensures, c.take.ensures.capacity) (starts _ c.in_ok-key.key _ _ _ c.self.invariant.0 _ c.in_ok-key.ensures.taken),
  rw c.set.ensures
      (as_many_wait _ c.in_ok-key.key Running c.self.inside.waiting c.self.invariant.1 (ap (one_if is_waiting) (is_one _ c.in_ok-key.key _ _ _ c.self.invariant.0 _ c.in_ok-key.ensures.taken)) refl),
)

pub returns-clause-claimed : goal.returns-clause-claimed
returns-clause-claimed c =
    let ready = is_one _ c.in_ok-key.key _ _ _ c.self.invariant.0 _ c.in_ok-key.ensures.taken in (
      sym (ap (λ seen. get seen.states c.in_ok-key.key) c.self.view_is) ∙ ready,
      subst (λ room. Moves c.args.self.now (seen_of c.set.new.self room) c.in_ok-key.key Running) (sym c.take.ensures.capacity)
          (moves c.self.inside.states c.set.new.self (capacity c.self.inside.ready) c.args.self.now c.in_ok-key.key c.self.view_is Running (keys c.self.inside.ready) c.self.inside.running c.self.invariant.0
          (ap is_some ready) c.set.ensures),
    )
