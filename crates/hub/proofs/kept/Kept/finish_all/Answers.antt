use Rattle.std.proofs.Common.{◌≡◌, ◌∙◌, ◌∷◌, ◌+◌, ◌<◌, ◌++◌, [], ℕ, List, length, arith, false, ap, subst, sym}
use Rattle.terms.specs.declared.event.Event.{Event}
use Rattle.terms.specs.declared.name.Inst.{Inst}
use Rattle.machine.specs.Group.{AreRunning, cut}
use Rattle.commit.specs.Batch.{ends_said}
use Rattle.commit.specs.Core.{facts, graph, is_halted}
use Rattle.passes.specs.Known.{Desk, commits, count_of, writing_by}
use Rattle.passes.specs.Visits.{Writes}
use Rattle.hub.specs.Opening.{facts_behind}
use Rattle.hub.specs.Kept.{HasRun, IsKept}
use Rattle.hub.proofs.Batches.{adds_together, comes_all, had_room, outcomes_there, refuse_there, some_come, writes_all}
use Rattle.hub.proofs.Keeping.{kept_more, kept_same}
use Rattle.hub.proofs.Since.{ran_more, ran_refused}
use Rattle.hub.proofs.States.{record_has_bytes}
use Rattle.hub.proofs.Telling.{sees_more}
use Rattle.hub.proofs.kept.Kept.finish_all.Goals as goal

pub finish_all-requires : goal.finish_all-requires
finish_all-requires g c = record {
  running = subst (λ (tasks : List Inst). AreRunning c.self.inside.core.machine tasks) c.tasks.ensures c.if-not-runs_all.ensures;
  outcomes = outcomes_there c.facts_are_told_apart.ensures.among c.facts_go_on.ensures.all c.results_are_meant.ensures.stay g.J.Naming.opening c.self.inside.desk.book.history c.args.pass.now c.self.inside.core c.args.batch.tasks c.args.batch.outcomes
      c.self.invariant.behind c.show.ensures.pass.before c.requires;
}

pub invariant_of-self-in-Err : goal.invariant_of-self-in-Err
invariant_of-self-in-Err g c =
    let e = c.in-Err.ensures in
    subst (λ (d : Desk). IsKept (HasRun g.D.Disk g.J.Naming.opening g.J.Naming.left g.J.Naming.envs) g.J.Naming.opening g.J.Naming.passes d c.finish_all.new.self) (sym c.show.ensures.desk)
    (kept_same g.D.Disk _ _ _ _ _ _ e.finishes.commit c.in-Err.error e.finishes.doubt.1 c.self.invariant e.err.stays e.halts e.finishes.doubt.0
    (ran_refused g.D.Disk g.J.Naming.opening g.J.Naming.left g.J.Naming.envs c.facts_are_told_apart.ensures.among (λ on. (c.stores_go_on.ensures.gates on).stay) (commits c.self.inside.desk.book.history) c.self.inside.core c.finish_all.new.self c.in-Err.error c.is_kept.ensures.settled c.self.invariant.ran e.err.stays e.halts e.runs))

pub returns-in-Err-clause-refused : goal.returns-in-Err-clause-refused
returns-in-Err-clause-refused g c =
    let f = c.in-Err.ensures.finishes in
    refuse_there g.J.Naming.opening c.self.inside.desk.book.history c.args.pass.now c.show.new.pass c.self.inside.core (ends_said c.args.batch) f.commit c.in-Err.error c.self.invariant.behind c.self.invariant.end c.show.ensures.pass f.tried f.refused f.full

pub record_ends-requires-clause-room : goal.record_ends-requires-clause-room
record_ends-requires-clause-room g c =
    let f = c.in-Ok.ensures.finishes in
    let answered = f.answered in
    let some : 0 < length f.commit = omega (
      arith,
      ap length answered.commit_is,
      some_come g.J.Naming.opening.graph (graph c.self.inside.core) (facts_behind g.J.Naming.opening c.args.pass.now.seen) (facts c.self.inside.core) c.args.batch.tasks c.args.batch.outcomes c.in-Ok.ended
          (omega (arith, c.len.ensures.count, c.len.ensures.some)) c.requires answered.together,
    ) in
    omega (
      arith,
      ap (λ (d : Desk). count_of (commits d.book.history)) c.show.ensures.desk,
      c.self.invariant.short answered.takes.working.0,
      record_has_bytes f.commit,
      ap length c.last_commit-count.ensures,
      ap length answered.takes.latest,
      had_room c.self.inside.core f.commit c.in-Ok.ended some f.full,
    )

pub invariant_of-self-2 : goal.invariant_of-self-2
invariant_of-self-2 g c =
    let answered = c.in-Ok.ensures.finishes.answered in
    let old = c.self.inside.core in
    let new = c.finish_all.new.self in
    let commit = cut c.in-Ok.ended (ends_said c.args.batch) in
    let goes : is_halted old ≡ false = answered.takes.working.0 in
    let run = c.in-Ok.ensures.runs goes in
    subst (λ (at : Desk). IsKept (HasRun g.D.Disk g.J.Naming.opening g.J.Naming.left g.J.Naming.envs) g.J.Naming.opening g.J.Naming.passes at new)
    (sym (◌∙◌ {b = writing_by c.show.new.pass.number (cut c.in-Ok.ended (ends_said c.of-said.result.value)) c.show.new.desk} c.record_ends.ensures.desk (λ i. writing_by c.show.new.pass.number (cut c.in-Ok.ended (ends_said (c.of-said.ensures i))) (c.show.ensures.desk i))))
    (kept_more c.facts_are_told_apart.ensures.among c.facts_go_on.ensures.all c.facts_go_on.ensures.environment _ g.J.Naming.opening g.J.Naming.passes c.show.new.pass.number c.self.inside.desk old new commit c.self.invariant
    (comes_all g.D.Disk old new c.args.batch.tasks (ends_said c.args.batch) c.in-Ok.ensures.finishes.commit c.in-Ok.ended answered run)
    (ran_more g.D.Disk g.J.Naming.opening g.J.Naming.left g.J.Naming.envs c.facts_are_told_apart.ensures.among (λ on. (c.stores_go_on.ensures.gates on).stay) (commits c.self.inside.desk.book.history) old new commit goes (c.is_kept.ensures.settled goes) c.self.invariant.ran run))

pub returns-clause-seen : goal.returns-clause-seen
returns-clause-seen g c =
    sees_more g.J.Naming.opening (cut c.in-Ok.ended (ends_said c.args.batch)) c.self.inside.desk.book.history c.record_ends.new.desk.book.history c.args.pass.now c.record_ends.new.pass (invariant_of-self-2 g c).legal
    (writes_all c.self.inside.desk c.show.new.desk c.record_ends.new.desk c.args.pass.now c.show.new.pass c.record_ends.new.pass c.args.batch c.of-said.result.value c.in-Ok.ended
    c.show.ensures.desk c.of-said.ensures c.show.ensures.pass c.record_ends.ensures.writes)

pub returns-clause-ok : goal.returns-clause-ok
returns-clause-ok g c =
    adds_together g.J.Naming.opening (ends_said c.args.batch) c.in-Ok.ended c.self.inside.desk.book.history c.record_ends.new.desk.book.history c.args.pass.now c.record_ends.new.pass c.self.inside.core c.self.invariant.behind
    c.in-Ok.ensures.finishes.answered.together
    (writes_all c.self.inside.desk c.show.new.desk c.record_ends.new.desk c.args.pass.now c.show.new.pass c.record_ends.new.pass c.args.batch c.of-said.result.value c.in-Ok.ended
    c.show.ensures.desk c.of-said.ensures c.show.ensures.pass c.record_ends.ensures.writes)
