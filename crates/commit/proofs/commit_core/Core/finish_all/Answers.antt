use Rattle.std.proofs.Common.{◌≡◌, ◌∙◌, List, ap, arith, length, subst, sym}
use Rattle.terms.specs.declared.event.Event.{Event}
use Rattle.machine.specs.Group.{AreEndsHere, ended_by}
use Rattle.commit.specs.Core.{facts, graph}
use Rattle.commit.proofs.Batches.{are_ends_here, as_many, ended_are}
use Rattle.commit.proofs.commit_core.Core.finish_all.Goals as goal

pub end_all-requires-clause-here : goal.end_all-requires-clause-here
end_all-requires-clause-here g c =
    subst (λ (list : List Event). AreEndsHere c.args.self.now.machine list) (sym c.into_ends-tasks.ensures.ends)
    (are_ends_here c.results_are_meant.ensures.gives c.results_are_meant.ensures.faults c.args.self.now.machine c.args.batch.tasks c.args.batch.outcomes c.requires.running c.requires.outcomes)

pub end_all-requires-clause-ended : goal.end_all-requires-clause-ended
end_all-requires-clause-ended g c =
    ap ended_by c.into_ends-tasks.ensures.ends ∙ ended_are (graph c.args.self.now) (facts c.args.self.now) c.args.batch.tasks c.args.batch.outcomes c.requires.outcomes ∙ sym c.into_ends-tasks.ensures.tasks

pub end_all-requires-clause-some : goal.end_all-requires-clause-some
end_all-requires-clause-some g c =
    let counted : length c.into_ends-tasks.result.1.items ≡ length c.args.batch.tasks = ap length c.into_ends-tasks.ensures.ends ∙ as_many (graph c.args.self.now) (facts c.args.self.now) c.args.batch.tasks c.args.batch.outcomes c.requires.outcomes in
    omega (arith, counted, c.into_ends-tasks.ensures.some)
