use Rattle.std.proofs.Common.{◌≡◌, false, Some, inr, sym, subst, refl}
use Rattle.terms.specs.Facts.{done}
use Rattle.graph.specs.Fits.{IsPrescribed}
use Rattle.instances.specs.declared.state.State.TheVariants.{Running}
use Rattle.machine.specs.Meaning.{BodyGives}
use Rattle.machine.specs.Machine.{Machine, facts, state_of}
use Rattle.machine.proofs.Unfinished.{unfinished}
use Rattle.machine.proofs.machine.Machine.may_end.Goals as goal

pub are_new-requires : goal.are_new-requires
are_new-requires c =
    let gives = subst (λ (m : Machine). BodyGives m.graph (facts m) c.args.task.now c.args.puts.now) (sym c.self.view_is) c.requires.gives in
    (c.given_are_of_graph.ensures c.self.inside.graph.value (facts (record { graph = c.self.inside.graph.value; memory = c.self.inside.memory })) c.args.task.now c.args.puts.now c.self.invariant.0.graph gives).1

pub returns-then-are_new-clause-legal : goal.returns-then-are_new-clause-legal
returns-then-are_new-clause-legal c =
    let task = c.args.task.now in
    let was = subst (λ (m : Machine). state_of m task ≡ Some Running) (sym c.self.view_is) c.requires.running in
    let its = subst (λ (m : Machine). IsPrescribed m.graph (facts m) task × (facts m (done task) ≡ false)) c.self.view_is
    (unfinished c.self.inside.graph.value c.self.inside.memory c.self.invariant.0 c.are_there_together.ensures task was) in
    record { working = c.in_ok-is_working.ensures.working; event_is_legal = (its.0, its.1, c.requires.gives, c.if-are_new.ensures.new) }

pub returns-else-are_new-clause-legal : goal.returns-else-are_new-clause-legal
returns-else-are_new-clause-legal c =
    let task = c.args.task.now in
    let was = subst (λ (m : Machine). state_of m task ≡ Some Running) (sym c.self.view_is) c.requires.running in
    let its = subst (λ (m : Machine). IsPrescribed m.graph (facts m) task × (facts m (done task) ≡ false)) c.self.view_is
    (unfinished c.self.inside.graph.value c.self.inside.memory c.self.invariant.0 c.are_there_together.ensures task was) in
    record { working = c.in_ok-is_working.ensures.working; event_is_legal = (its.0, its.1, inr (refl, (c.args.puts.now, c.requires.gives, c.if-are_new.ensures.new))) }
