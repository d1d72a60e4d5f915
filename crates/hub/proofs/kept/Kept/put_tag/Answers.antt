use Rattle.std.proofs.Common.{[], ◌∷◌, subst, sym, ap, refl, Ok, Err}
use Rattle.std.specs.Prelude.{IsTrue}
use Rattle.terms.specs.declared.event.Event.{Event}
use Rattle.terms.specs.declared.event.Event.TheVariants.{EnvTag}
use Rattle.machine.specs.Machine.{RefusesTag}
use Rattle.commit.specs.Core.{Core, graph, facts}
use Rattle.passes.specs.Known.{Desk, commits}
use Rattle.hub.specs.Kept.{Kept, HasRun, IsKept}
use Rattle.hub.specs.Replies.{Adds, RefusesEvent}
use Rattle.hub.proofs.Keeping.{kept_more, kept_refused, commits_as}
use Rattle.hub.proofs.States.{comes_one}
use Rattle.hub.proofs.Since.{ran_put, ran_refused_put}
use Rattle.hub.proofs.Telling.{sees_same, sees_more, adds_one, refuses_there}
use Rattle.hub.proofs.kept.Kept.put_tag.Goals as goal

pub invariant_of-self : goal.invariant_of-self
invariant_of-self g c =
    subst (λ (d : Desk). IsKept (HasRun g.D.Disk g.J.Naming.opening g.J.Naming.left g.J.Naming.envs) g.J.Naming.opening g.J.Naming.passes d c.put_tag.new.self) (sym c.record_tag.ensures.desk)
    (kept_more c.facts_are_told_apart.ensures.among c.facts_go_on.ensures.all c.facts_go_on.ensures.environment _ _ _ c.args.pass.now.number _ _ _ _ c.self.invariant (comes_one _ _ _ c.in-Ok.ensures.commits.takes)
    (ran_put g.D.Disk g.J.Naming.opening g.J.Naming.left g.J.Naming.envs c.args.pass.now.number (commits c.self.inside.desk.book.history) _ c.self.inside.core c.put_tag.new.self c.number.ensures.of_kind c.in-Ok.ensures.commits.takes.working.0 c.self.invariant.ran))

pub invariant_of-self-in-Err : goal.invariant_of-self-in-Err
invariant_of-self-in-Err g c =
    subst (λ (d : Desk). IsKept (HasRun g.D.Disk g.J.Naming.opening g.J.Naming.left g.J.Naming.envs) g.J.Naming.opening g.J.Naming.passes d c.put_tag.new.self) (sym c.show.ensures.desk)
    (kept_refused g.D.Disk _ _ _ _ _ _ _ c.in-Err.error c.self.invariant c.in-Err.ensures.unchanged.stays c.in-Err.ensures.halts c.in-Err.ensures.commits.doubt
    (ran_refused_put g.D.Disk g.J.Naming.opening g.J.Naming.left g.J.Naming.envs c.args.pass.now.number (commits c.self.inside.desk.book.history) c.self.inside.core c.put_tag.new.self c.in-Err.error c.number.ensures.of_kind c.in-Err.ensures.halts c.self.invariant.ran))

pub returns-in-Ok-clause-core : goal.returns-in-Ok-clause-core
returns-in-Ok-clause-core g c =
    commits_as g.D.Disk c.self.inside.core c.args.self.now.core c.put_tag.new.self
    (λ (core : Core g.row.D.Denot). RefusesTag (graph core) (facts core) c.args.tag) (EnvTag c.args.tag) (EnvTag c.args.tag) (Ok tt)
    (ap (λ (kept : Kept g.row.D.Denot). kept.core) c.self.view_is) (refl)
    c.in-Ok.ensures

pub returns-in-Err-clause-core : goal.returns-in-Err-clause-core
returns-in-Err-clause-core g c =
    commits_as g.D.Disk c.self.inside.core c.args.self.now.core c.put_tag.new.self
    (λ (core : Core g.row.D.Denot). RefusesTag (graph core) (facts core) c.args.tag) (EnvTag c.args.tag) (EnvTag c.args.tag) (Err c.in-Err.error)
    (ap (λ (kept : Kept g.row.D.Denot). kept.core) c.self.view_is) (refl)
    c.in-Err.ensures

pub returns-in-Ok-clause-seen : goal.returns-in-Ok-clause-seen
returns-in-Ok-clause-seen g c = sees_more _ _ _ _ _ _ (invariant_of-self g c).legal c.record_tag.ensures.writes

pub returns-in-Err-clause-seen : goal.returns-in-Err-clause-seen
returns-in-Err-clause-seen g c = sees_same _ c.self.inside.desk.book.history _ _ c.self.invariant.legal c.show.ensures.pass

pub returns-in-Ok-clause-ok : goal.returns-in-Ok-clause-ok
returns-in-Ok-clause-ok g c = subst (λ (event : Event). Adds (event ∷ []) c.args.pass.now c.record_tag.new.pass) (refl) (adds_one _ _ _ _ _ c.record_tag.ensures.writes)

pub returns-in-Err-clause-refused : goal.returns-in-Err-clause-refused
returns-in-Err-clause-refused g c =
    subst (λ (event : Event). RefusesEvent g.J.Naming.opening c.show.new.pass (λ graph X. RefusesTag graph X c.args.tag) event c.in-Err.error) (refl)
    (refuses_there g.J.Naming.opening c.self.inside.desk.book.history c.args.pass.now c.show.new.pass c.self.inside.core (λ graph X. RefusesTag graph X c.args.tag) (EnvTag c.args.tag) c.in-Err.error c.self.invariant.behind c.self.invariant.end c.show.ensures.pass c.in-Err.ensures.commits.refused c.in-Err.ensures.commits.full)
