use Rattle.std.proofs.Common.{[], ◌∷◌}
use Rattle.commit.proofs.Allowed.{some_left}
use Rattle.commit.proofs.Idle.{behind_end, ends}
use Rattle.commit.proofs.Running.{ends_early, handed_back, is_end, looked, moved, rests}
use Rattle.commit.proofs.commit_core.Core.run_task.Goals as goal

pub returns-in-Ok-clause-idle : goal.returns-in-Ok-clause-idle
returns-in-Ok-clause-idle g c =
    let it = c.in-Ok.ensures.finishes in
    behind_end c.args.self.now c.finish.new.self c.args.task c.requires.alone it.end (ends _ c.args.task it.end it.is_end) it.commits.takes.takes

pub returns-in-Ok-clause-runs : goal.returns-in-Ok-clause-runs
returns-in-Ok-clause-runs g c =
    let it = c.in-Ok.ensures.runs c.requires.goes_on.0 in
    record { commits = (it.0 ∷ []) ∷ []; runs = it.3 }

pub returns-in-Err-finish-clause-runs : goal.returns-in-Err-finish-clause-runs
returns-in-Err-finish-clause-runs g c = record { commits = []; runs = c.in-Err-finish.ensures.runs c.requires.goes_on.0 }

pub returns-in-Err-finish-clause-err : goal.returns-in-Err-finish-clause-err
returns-in-Err-finish-clause-err g c =
    let it = c.in-Err-finish.ensures.finishes in
    let allowed = some_left c.runs_are_counted.ensures.one c.args.self.now.machine c.args.task c.args.self.now.allowance c.requires.running c.is_kept.ensures.allowed in
    ends_early g.D.Disk c.args.self.now c.finish.new.self c.args.task it.end _ c.requires.goes_on.0 allowed c.requires.goes_on.1
    (is_end _ c.args.task it.end it.is_end) c.in-Err-finish.ensures.err it.commits.refused c.in-Err-finish.ensures.halts

pub returns-in-Ok-let_wait-clause-runs : goal.returns-in-Ok-let_wait-clause-runs
returns-in-Ok-let_wait-clause-runs g c = record {
  commits = [];
  runs =
      rests g.D.Disk (λ on. (c.stores_go_on.ensures.rest on).commits) (λ on. (c.stores_go_on.ensures.gates on).rest) c.args.self.now c.let_wait.new.self c.requires.goes_on.0 c.is_kept.ensures.kept
      (looked c.args.self.now c.let_wait.new.self c.args.task _ c.in-Ok-let_wait.ensures.ok.1 c.requires.goes_on.0 (c.is_kept.ensures.settled c.requires.goes_on.0));
}

pub returns-in-Err-let_wait-clause-runs : goal.returns-in-Err-let_wait-clause-runs
returns-in-Err-let_wait-clause-runs g c =
    let it = c.in-Err-let_wait.ensures in
    record {
      commits = [];
      runs =
          rests g.D.Disk (λ on. (c.stores_go_on.ensures.rest on).commits) (λ on. (c.stores_go_on.ensures.gates on).rest) c.args.self.now c.let_wait.new.self c.requires.goes_on.0 c.is_kept.ensures.kept
          (handed_back c.args.self.now c.let_wait.new.self c.args.task it.err it.refused.vault it.refused.in_doubt c.requires.goes_on.0 (c.is_kept.ensures.settled c.requires.goes_on.0));
    }

pub returns-in-Err-clause-runs : goal.returns-in-Err-clause-runs
returns-in-Err-clause-runs g c = record {
  commits = [];
  runs =
      rests g.D.Disk (λ on. (c.stores_go_on.ensures.rest on).commits) (λ on. (c.stores_go_on.ensures.gates on).rest) c.args.self.now c.release.new.self c.requires.goes_on.0 c.is_kept.ensures.kept
      (moved c.args.self.now c.release.new.self c.args.task _ c.release.ensures c.requires.goes_on.0 (c.is_kept.ensures.settled c.requires.goes_on.0));
}
