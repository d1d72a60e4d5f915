use Rattle.std.proofs.Common.{◌<◌, sym, subst, refl, arith}
use Rattle.instances.specs.OfStep.{AddsInstance}
use Rattle.instances.specs.declared.state.State.TheVariants.{Ready}
use Rattle.instances.specs.Queue.{capacity, keys}
use Rattle.instances.proofs.Changes.{adds, adds_ready, in_any_order, seen_of}
use Rattle.instances.proofs.Tallied.{waits_added}
use Rattle.instances.proofs.step_instances.StepInstances.add_ready.Goals as goal

pub add-requires-clause-room : goal.add-requires-clause-room
add-requires-clause-room c = let some = subst (λ seen. 0 < seen.room) (sym c.self.view_is) c.requires.room in omega (arith, some)

pub invariant_of-self : goal.invariant_of-self
invariant_of-self c = (
  rw c.put_last.ensures.capacity
      (in_any_order _ _ _ _ _ (adds_ready c.self.inside.states c.add.new.self (capacity c.self.inside.ready) c.args.self.now c.args.key c.self.view_is (keys c.self.inside.ready) c.self.inside.running c.self.invariant.0 c.add.ensures c.requires.absent c.requires.room) c.put_last.ensures.keys),
  waits_added c.self.inside.states c.add.new.self (capacity c.self.inside.ready) c.args.self.now c.args.key c.self.view_is Ready c.self.inside.waiting c.self.invariant.1 c.add.ensures c.requires.absent refl,
)

pub returns : goal.returns
returns c =
    subst (λ room. AddsInstance c.args.self.now (seen_of c.add.new.self room) c.args.key Ready) (sym c.put_last.ensures.capacity)
    (adds c.self.inside.states c.add.new.self (capacity c.self.inside.ready) c.args.self.now c.args.key c.self.view_is Ready (keys c.self.inside.ready) c.self.inside.running c.self.invariant.0 c.add.ensures c.requires.absent c.requires.room).0
