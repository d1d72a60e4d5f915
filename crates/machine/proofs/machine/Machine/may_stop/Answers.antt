use Rattle.std.proofs.Common.{◌≡◌, false, Some, inl, sym, subst}
use Rattle.instances.specs.declared.state.State.TheVariants.{Running}
use Rattle.graph.specs.Fits.{IsPrescribed}
use Rattle.terms.specs.Facts.{done}
use Rattle.machine.specs.Machine.{Machine, facts, state_of}
use Rattle.machine.proofs.Unfinished.{on_ok, unfinished}
use Rattle.machine.proofs.machine.Machine.may_stop.Goals as goal

pub returns-clause-legal : goal.returns-clause-legal
returns-clause-legal c =
    let task = c.args.task.now in
    let was = subst (λ (m : Machine). state_of m task ≡ Some Running) (sym c.self.view_is) c.requires.running in
    let its = subst (λ (m : Machine). IsPrescribed m.graph (facts m) task × (facts m (done task) ≡ false)) c.self.view_is
    (unfinished c.self.inside.graph.value c.self.inside.memory c.self.invariant.0 c.are_there_together.ensures task was) in
    on_ok c.is_working.result c.is_working.ensures.working (λ working. record { working = working; event_is_legal = (its.0, its.1, inl c.requires.faults) })
