use Rattle.std.proofs.Common.{◌≡◌, ◌∙◌, ap, length, max, subst, false, arith}
use Rattle.terms.specs.Commits.{events_of}
use Rattle.commit.specs.Core.{Core, facts, graph}
use Rattle.commit.specs.Runs.{IsFull, MetFull, Runs, with_allowance}
use Rattle.commit.specs.Steps.{running_count}
use Rattle.commit.proofs.Counted.{none_runs}
use Rattle.commit.proofs.Told.{met_full, told_for}
use Rattle.commit.proofs.commit_core.Core.run_within.Goals as goal

pub returns-in-Ok-clause-runs : goal.returns-in-Ok-clause-runs
returns-in-Ok-clause-runs g c _ =
    let old = c.args.self.now in
    let none : running_count old ≡ 0 = let here = (none_runs old.machine c.is_kept.ensures.machine.counted).1 c.requires.idle in omega (arith, here) in
    let exact : max c.args.limit (running_count old) ≡ c.args.limit = omega (arith, none) in
    let allowed : c.allow.new.self ≡ with_allowance old c.args.limit = c.in-Ok.ensures.ok.1 ∙ ap (λ n. with_allowance old n) exact in
    let it = c.run_allowed-went.ensures.runs in
    let runs =
    subst (λ (first : Core g.row.D.Denot). Runs g.D.Disk first c.run_allowed-went.new.self it.commits) allowed it.runs
    in
    let new = c.run_allowed-went.new.self in
    let begun_at = old.vault.journal.end in
    record {
      commits = it.commits;
      runs = runs;
      told =
          told_for (IsFull new) (MetFull (graph old) (facts old) begun_at it.commits × (false ≡ false → IsFull new)) false false new c.args.limit (length (events_of it.commits)) c.verdict.result
          (λ working full. (met_full (graph old) (facts old) begun_at new it.commits runs.graph runs.facts (runs.end working) full, λ _. full)) (c.verdict.ensures c.args.limit (length (events_of it.commits)) runs.spent);
    }
