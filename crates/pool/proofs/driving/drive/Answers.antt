use Rattle.std.proofs.Common.{◌≡◌, ◌∙◌, ap, max, arith}
use Rattle.commit.specs.Runs.{with_allowance}
use Rattle.commit.specs.Steps.{running_count}
use Rattle.commit.proofs.Counted.{none_runs}
use Rattle.pool.proofs.Teams.{driven}
use Rattle.pool.proofs.driving.drive.Goals as goal

pub returns-in-Ok-clause-runs : goal.returns-in-Ok-clause-runs
returns-in-Ok-clause-runs g c _ =
    let old = c.args.core in
    let none : running_count old ≡ 0 = let here = (none_runs old.machine c.is_kept.ensures.machine.counted).1 c.requires.idle in omega (arith, here) in
    let exact : max c.args.limit (running_count old) ≡ c.args.limit = omega (arith, none) in
    let allowed : c.allow.new.self ≡ with_allowance old c.args.limit = c.in-Ok.ensures.ok.1 ∙ ap (λ n. with_allowance old n) exact in
    driven g.D.Disk c.facts_are_told_apart.ensures.among (λ on. (c.stores_go_on.ensures.gates on).stay) g.P.Probe.may_stop c.worked-core.result.1 old c.allow.new.self c.worked-core.result.0
    c.conclude.result.0 c.args.limit c.conclude.result.1 allowed c.is_kept-in-Ok.ensures.settled c.worked-core.ensures.works c.conclude.ensures.concludes
