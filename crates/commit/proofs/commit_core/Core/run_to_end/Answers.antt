use Rattle.std.proofs.Common.{◌∙◌, ap, rules}
use Rattle.std.proofs.lemmas.Bool.{false≢true}
use Rattle.terms.specs.Facts.{bad}
use Rattle.commit.specs.Core.{is_halted}
use Rattle.commit.proofs.Driven.{begins, claims_none, driven_on, of_claim, runs_on}
use Rattle.commit.proofs.commit_core.Core.run_to_end.Goals as goal

pub loop-alloc-init : goal.loop-alloc-init
loop-alloc-init g c = begins g.D.Disk c.facts_are_told_apart.ensures.among (λ on. (c.stores_go_on.ensures.gates on).stay) (λ on. (c.stores_go_on.ensures.rest on).commits) (λ on. (c.stores_go_on.ensures.gates on).rest) c.args.graph.now c.args.self.now c.requires.graph c.requires.idle c.requires.working (c.is_kept.ensures.settled c.requires.working) c.is_kept.ensures.kept

pub run_task-requires-clause-goes_on : goal.run_task-requires-clause-goes_on
run_task-requires-clause-goes_on g c =
    let claimed = of_claim c.loop-alloc.self c.claim.new.self c.pick.result _ c.in-Ok-Some.task c.in-Ok-Some.field-0-is c.in-Ok-Some.ensures.claimed in
    (search rules, λ instance kind. claimed.2.machine.facts (bad instance kind) ∙ claimed.0.working instance kind)

pub returns-in-Ok-true-clause-runs : goal.returns-in-Ok-true-clause-runs
returns-in-Ok-true-clause-runs g c =
    runs_on g.D.Disk c.facts_are_told_apart.ensures.among (λ on. (c.stores_go_on.ensures.gates on).stay) (λ on. (c.stores_go_on.ensures.rest on).commits) (λ on. (c.stores_go_on.ensures.gates on).rest) c.args.graph.now c.args.self.now c.loop-alloc.self c.claim.new.self c.run_task.new.self c.in-Ok-Some.task c.loop-alloc.invariant c.is_kept-in-loop-alloc.ensures.kept (of_claim c.loop-alloc.self c.claim.new.self c.pick.result _ c.in-Ok-Some.task c.in-Ok-Some.field-0-is c.in-Ok-Some.ensures.claimed).2 c.in-Ok-true.ensures.runs

pub loop-alloc-preserved : goal.loop-alloc-preserved
loop-alloc-preserved g c =
    let it = c.in-Ok-false.ensures in
    driven_on g.D.Disk c.facts_are_told_apart.ensures.among (λ on. (c.stores_go_on.ensures.gates on).stay) (λ on. (c.stores_go_on.ensures.rest on).commits) (λ on. (c.stores_go_on.ensures.gates on).rest) c.args.graph.now c.args.self.now c.run_task.new.self c.requires.graph
    (runs_on g.D.Disk c.facts_are_told_apart.ensures.among (λ on. (c.stores_go_on.ensures.gates on).stay) (λ on. (c.stores_go_on.ensures.rest on).commits) (λ on. (c.stores_go_on.ensures.gates on).rest) c.args.graph.now c.args.self.now c.loop-alloc.self c.claim.new.self c.run_task.new.self c.in-Ok-Some.task c.loop-alloc.invariant c.is_kept-in-loop-alloc.ensures.kept (of_claim c.loop-alloc.self c.claim.new.self c.pick.result _ c.in-Ok-Some.task c.in-Ok-Some.field-0-is c.in-Ok-Some.ensures.claimed).2 it.runs)
    it.idle it.ok.0 it.ok.1

pub returns-in-Err-run_task-clause-runs : goal.returns-in-Err-run_task-clause-runs
returns-in-Err-run_task-clause-runs g c =
    runs_on g.D.Disk c.facts_are_told_apart.ensures.among (λ on. (c.stores_go_on.ensures.gates on).stay) (λ on. (c.stores_go_on.ensures.rest on).commits) (λ on. (c.stores_go_on.ensures.gates on).rest) c.args.graph.now c.args.self.now c.loop-alloc.self c.claim.new.self c.run_task.new.self c.in-Ok-Some.task c.loop-alloc.invariant c.is_kept-in-loop-alloc.ensures.kept (of_claim c.loop-alloc.self c.claim.new.self c.pick.result _ c.in-Ok-Some.task c.in-Ok-Some.field-0-is c.in-Ok-Some.ensures.claimed).2 c.in-Err-run_task.ensures.runs

pub returns-in-Ok-None-clause-ok : goal.returns-in-Ok-None-clause-ok
returns-in-Ok-None-clause-ok g c =
    let it = c.in-Ok-None.ensures in
    let same = it.none.1 c.in-Ok-None.field-0-is in (
      ap is_halted same ∙ it.none.0,
      ap (λ core. core.in_doubt) same ∙ c.loop-alloc.invariant.settled,
      λ ended. absurd (false≢true ended),
      λ _. claims_none c.loop-alloc.self c.claim.new.self c.pick.result c.ready-ready.result c.in-Ok-None.field-0 c.in-Ok-None.field-0-is it.some same c.pick.ensures c.ready-ready.ensures,
    )
