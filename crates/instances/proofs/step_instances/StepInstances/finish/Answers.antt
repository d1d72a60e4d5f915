use Rattle.std.proofs.Common.{◌≡◌, ◌∙◌, ◌-◌, ap, sym, subst, refl, is_some}
use Rattle.std.specs.FinMap.{get}
use Rattle.instances.specs.OfStep.{IsKept, how_many, is_waiting, one_if}
use Rattle.instances.specs.declared.state.State.TheVariants.{Done}
use Rattle.instances.specs.Queue.{capacity, keys}
use Rattle.instances.proofs.Changes.{one_runs, stops, moves}
use Rattle.instances.proofs.Tallied.{as_many_wait}
use Rattle.instances.proofs.step_instances.StepInstances.finish.Goals as goal

pub overflow_sub-self : goal.overflow_sub-self
overflow_sub-self c = one_runs _ c.args.key _ _ _ c.self.invariant.0 (ap (λ seen. get seen.states c.args.key) c.self.view_is ∙ c.requires)

pub invariant_of-self : goal.invariant_of-self
invariant_of-self c =
    let runs = ap (λ seen. get seen.states c.args.key) c.self.view_is ∙ c.requires in
    subst (λ states. IsKept states (keys c.self.inside.ready) (c.self.inside.running - 1) (capacity c.self.inside.ready) × (c.self.inside.waiting ≡ how_many is_waiting states)) (sym (ap (λ s. s.items) c.set.ensures)) (
      stops _ c.args.key _ _ _ c.self.invariant.0 Done runs refl refl,
      as_many_wait _ c.args.key Done c.self.inside.waiting c.self.invariant.1 (ap (one_if is_waiting) runs) refl,
    )

pub returns : goal.returns
returns c =
    moves c.self.inside.states c.set.new.self (capacity c.self.inside.ready) c.args.self.now c.args.key c.self.view_is Done (keys c.self.inside.ready) c.self.inside.running c.self.invariant.0
    (ap is_some (ap (λ seen. get seen.states c.args.key) c.self.view_is ∙ c.requires)) c.set.ensures
