use Rattle.std.proofs.Common.{◌≡◌, ◌∙◌, ◌+◌, ◌-◌, ap, sym, subst, refl, is_some, arith}
use Rattle.std.specs.FinMap.{get}
use Rattle.maps.specs.Keyed.{Keyed}
use Rattle.instances.specs.OfStep.{IsKept, how_many, is_waiting, one_if}
use Rattle.instances.specs.declared.state.State.{State}
use Rattle.instances.specs.declared.state.State.TheVariants.{Waiting}
use Rattle.instances.specs.Queue.{capacity, keys}
use Rattle.instances.proofs.Changes.{one_runs, stops, moves}
use Rattle.instances.proofs.Tallied.{after}
use Rattle.instances.proofs.step_instances.StepInstances.park.Goals as goal

pub overflow_sub-self : goal.overflow_sub-self
overflow_sub-self c = one_runs _ c.args.key _ _ _ c.self.invariant.0 (ap (λ seen. get seen.states c.args.key) c.self.view_is ∙ c.requires)

pub invariant_of-self : goal.invariant_of-self
invariant_of-self c =
    subst (λ (s : Keyed State). IsKept s.items (keys c.self.inside.ready) c.self.inside.running (capacity c.self.inside.ready) × (c.self.inside.waiting ≡ how_many is_waiting s.items)) (sym c.in_err-wait.ensures.refused) c.self.invariant

pub invariant_of-self-2 : goal.invariant_of-self-2
invariant_of-self-2 c =
    let runs = ap (λ seen. get seen.states c.args.key) c.self.view_is ∙ c.requires in
    subst (λ states. IsKept states (keys c.self.inside.ready) (c.self.inside.running - 1) (capacity c.self.inside.ready) × (c.self.inside.waiting + 1 ≡ how_many is_waiting states)) (sym (ap (λ s. s.items) c.in_ok-wait.ensures.ok)) (
      stops _ c.args.key _ _ _ c.self.invariant.0 (Waiting c.args.addr) runs refl refl,
      after _ c.args.key (Waiting c.args.addr) c.self.inside.waiting (c.self.inside.waiting + 1) c.self.invariant.1 (omega (arith, ap (one_if is_waiting) runs)),
    )

pub returns-clause-ok : goal.returns-clause-ok
returns-clause-ok c =
    moves c.self.inside.states c.wait.new.self (capacity c.self.inside.ready) c.args.self.now c.args.key c.self.view_is (Waiting c.args.addr) (keys c.self.inside.ready) c.self.inside.running c.self.invariant.0
    (ap is_some (ap (λ seen. get seen.states c.args.key) c.self.view_is ∙ c.requires)) c.in_ok-wait.ensures.ok
