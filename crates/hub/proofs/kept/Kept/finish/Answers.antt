use Rattle.std.proofs.Common.{◌≡◌, ◌∙◌, ◌∷◌, [], false, subst, sym}
use Rattle.terms.specs.declared.event.Event.{Event}
use Rattle.machine.specs.Machine.{RefusesEnd}
use Rattle.commit.specs.Core.{is_halted}
use Rattle.commit.specs.Runs.{Runs}
use Rattle.passes.specs.Known.{Desk, commits}
use Rattle.commit.specs.Outcome.{end_of}
use Rattle.hub.specs.Kept.{HasRun, IsKept}
use Rattle.commit.proofs.Ended.{end_is_told}
use Rattle.hub.proofs.Ended.{may_answer}
use Rattle.hub.proofs.Finished.{kept_ended, writes_end}
use Rattle.hub.proofs.Keeping.{kept_refused}
use Rattle.hub.proofs.Since.{ran_more, ran_refused}
use Rattle.hub.proofs.Telling.{sees_same, sees_more, adds_one, refuses_there, outcome_there}
use Rattle.hub.proofs.kept.Kept.finish.Goals as goal

pub returns-then-not-runs-clause-seen : goal.returns-then-not-runs-clause-seen
returns-then-not-runs-clause-seen g c = sees_same _ c.self.inside.desk.book.history _ _ c.self.invariant.legal c.show.ensures.pass

pub finish-requires-clause-outcome : goal.finish-requires-clause-outcome
finish-requires-clause-outcome g c =
    outcome_there c.facts_are_told_apart.ensures.among c.facts_go_on.ensures.all c.results_are_meant.ensures.stay g.J.Naming.opening c.self.inside.desk.book.history c.args.pass.now c.self.inside.core c.args.task c.args.outcome
    c.self.invariant.behind c.show.ensures.pass.before c.requires

pub invariant_of-self-in-Err : goal.invariant_of-self-in-Err
invariant_of-self-in-Err g c =
    let e = c.in-Err.ensures in
    subst (λ (d : Desk). IsKept (HasRun g.D.Disk g.J.Naming.opening g.J.Naming.left g.J.Naming.envs) g.J.Naming.opening g.J.Naming.passes d c.finish.new.self) (sym c.show.ensures.desk)
    (kept_refused g.D.Disk _ _ _ _ _ _ e.finishes.end c.in-Err.error c.self.invariant e.err.stays e.halts e.finishes.commits.doubt
    (ran_refused g.D.Disk g.J.Naming.opening g.J.Naming.left g.J.Naming.envs c.facts_are_told_apart.ensures.among (λ on. (c.stores_go_on.ensures.gates on).stay) (commits c.self.inside.desk.book.history) c.self.inside.core c.finish.new.self c.in-Err.error c.is_kept.ensures.settled c.self.invariant.ran e.err.stays e.halts e.runs))

pub returns-in-Err-clause-seen : goal.returns-in-Err-clause-seen
returns-in-Err-clause-seen g c = sees_same _ c.self.inside.desk.book.history _ _ c.self.invariant.legal c.show.ensures.pass

pub returns-in-Err-clause-refused : goal.returns-in-Err-clause-refused
returns-in-Err-clause-refused g c =
    let f = c.in-Err.ensures.finishes in
    (f.end, f.is_end, refuses_there g.J.Naming.opening c.self.inside.desk.book.history c.args.pass.now c.show.new.pass c.self.inside.core (λ _ X. RefusesEnd X) f.end c.in-Err.error c.self.invariant.behind c.self.invariant.end c.show.ensures.pass f.commits.refused f.commits.full)

pub invariant_of-self-2 : goal.invariant_of-self-2
invariant_of-self-2 g c =
    let f = c.in-Ok.ensures.finishes in
    let old = c.self.inside.core in
    let new = c.finish.new.self in
    let goes : is_halted old ≡ false = f.commits.takes.working.0 in
    let run = c.in-Ok.ensures.runs goes in
    let same : run.0 ≡ f.end = end_is_told c.in-Ok.committed c.args.task c.args.outcome run.0 run.1 run.2 ∙ sym (end_is_told c.in-Ok.committed c.args.task c.args.outcome f.end f.is_end f.told) in
    let ends = subst (λ (end : Event). Runs g.D.Disk old new ((end ∷ []) ∷ [])) same run.3 in
    kept_ended c.facts_are_told_apart.ensures.among c.facts_go_on.ensures.all c.facts_go_on.ensures.environment _ g.J.Naming.opening g.J.Naming.passes c.show.new.pass.number c.self.inside.desk c.show.new.desk c.record_end.new.desk
    c.self.inside.core c.finish.new.self c.in-Ok.committed c.args.task c.inst-instance.result c.args.outcome c.of-said.result.value f.end c.self.invariant c.show.ensures.desk c.inst-instance.ensures c.of-said.ensures
    f.is_end f.told f.commits.takes
    (ran_more g.D.Disk g.J.Naming.opening g.J.Naming.left g.J.Naming.envs c.facts_are_told_apart.ensures.among (λ on. (c.stores_go_on.ensures.gates on).stay) (commits c.self.inside.desk.book.history) old new (f.end ∷ []) goes (c.is_kept.ensures.settled goes) c.self.invariant.ran ends)
    c.record_end.ensures.desk

pub returns-clause-seen : goal.returns-clause-seen
returns-clause-seen g c =
    sees_more g.J.Naming.opening (end_of c.in-Ok.committed c.args.task c.args.outcome ∷ []) c.self.inside.desk.book.history c.record_end.new.desk.book.history c.args.pass.now c.record_end.new.pass (invariant_of-self-2 g c).legal
    (writes_end c.self.inside.desk c.show.new.desk c.record_end.new.desk c.args.pass.now c.show.new.pass c.record_end.new.pass c.in-Ok.committed c.args.task c.inst-instance.result c.args.outcome c.of-said.result.value
    c.show.ensures.desk c.inst-instance.ensures c.of-said.ensures c.show.ensures.pass c.record_end.ensures.writes)

pub returns-clause-ok : goal.returns-clause-ok
returns-clause-ok g c = (
  may_answer c.in-Ok.committed c.args.task c.args.outcome c.in-Ok.ensures.finishes.end c.in-Ok.ensures.finishes.is_end c.in-Ok.ensures.finishes.told,
  adds_one (end_of c.in-Ok.committed c.args.task c.args.outcome ∷ []) c.self.inside.desk.book.history c.record_end.new.desk.book.history c.args.pass.now c.record_end.new.pass
      (writes_end c.self.inside.desk c.show.new.desk c.record_end.new.desk c.args.pass.now c.show.new.pass c.record_end.new.pass c.in-Ok.committed c.args.task c.inst-instance.result c.args.outcome c.of-said.result.value
      c.show.ensures.desk c.inst-instance.ensures c.of-said.ensures c.show.ensures.pass c.record_end.ensures.writes),
)
