use Rattle.std.proofs.Common.{refl, subst}
use Rattle.graph.specs.Fits.{addresses}
use Rattle.machine.specs.Machine.{Machine, WakesFor}
use Rattle.machine.proofs.Awake.{wakes_for, woken_is_of}
use Rattle.machine.proofs.machine.Machine.wake.Goals as goal

pub invariant_of-self : goal.invariant_of-self
invariant_of-self c = (woken_is_of c.self.inside.memory c.wake_for.new.self _ c.wake_for.ensures c.self.inside.graph.value c.self.invariant.0, c.self.invariant.1)

pub returns : goal.returns
returns c =
    let g = c.self.inside.graph.value in
    let new = c.wake_for.new.self in
    subst (λ (m : Machine). WakesFor m (record { graph = g; memory = new }) c.args.puts.now) c.self.view_is
    (wakes_for c.self.inside.memory new (addresses c.args.puts.now) c.wake_for.ensures g c.args.puts.now refl)
