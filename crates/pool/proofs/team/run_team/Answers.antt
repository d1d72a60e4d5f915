use Rattle.std.proofs.Common.{◌≡◌, ◌∙◌, ◌+◌, ◌≤◌, ap, sym, subst, false, length, vec_capacity, vec_len, arith}
use Rattle.commit.specs.Core.{Core}
use Rattle.passes.specs.Known.{commits}
use Rattle.passes.specs.Opening.{Opening}
use Rattle.pool.specs.Worked.{WorksOn}
use Rattle.pool.proofs.Teams.{as_many, met_by_team, nothing_done, one_out, runs_of_team}
use Rattle.pool.proofs.team.run_team.Goals as goal

pub returns-in-Err-clause-works : goal.returns-in-Err-clause-works
returns-in-Err-clause-works g c =
    subst (λ (back : Core g.row.D.Denot). WorksOn g.D.Disk c.args.core back c.memory-in-Err.result.full) (sym (c.into_core.ensures ∙ c.in-Err.ensures.err.0))
    (nothing_done g.D.Disk (λ on. (c.stores_go_on.ensures.rest on).commits) (λ on. (c.stores_go_on.ensures.gates on).rest) c.args.core c.memory-in-Err.result.full c.requires.working
    (c.is_kept.ensures.settled c.requires.working) c.is_kept.ensures.kept c.memory-in-Err.ensures.2)

pub returns-clause-works : goal.returns-clause-works
returns-clause-works g c =
    let whole = c.close_when_idle-core.ensures.whole in
    let none : g.J.Naming.envs ≡ 0 = c.requires.named.envs_are ∙ c.requires.passes.0 in
    let working : g.J.Naming.opening.halted ≡ false = ap (λ (o : Opening). o.halted) c.requires.named.opening_is ∙ c.requires.working in
    record {
      commits = commits whole.0;
      runs = runs_of_team g.D.Disk g.J.Naming.opening g.J.Naming.left c.args.core c.close_when_idle-core.result (commits whole.0)
          c.requires.named.opening_is c.requires.named.left_is (whole.1.ran.run none working);
      met = λ full. met_by_team g.D.Disk g.J.Naming.opening c.args.core whole.0 _ _ c.requires.named.opening_is whole.1.each (c.in_threads-back.ensures.full full);
    }

pub returns-in_default-clause-works : goal.returns-in_default-clause-works
returns-in_default-clause-works g c =
    nothing_done g.D.Disk (λ on. (c.stores_go_on.ensures.rest on).commits) (λ on. (c.stores_go_on.ensures.gates on).rest) c.args.core c.memory.result.full c.requires.working
    (c.is_kept.ensures.settled c.requires.working) c.is_kept.ensures.kept c.memory.ensures.2

pub returns-in_default-reserve-clause-works : goal.returns-in_default-reserve-clause-works
returns-in_default-reserve-clause-works g c =
    nothing_done g.D.Disk (λ on. (c.stores_go_on.ensures.rest on).commits) (λ on. (c.stores_go_on.ensures.gates on).rest) c.args.core c.memory-in_default-reserve.result.full c.requires.working
    (c.is_kept.ensures.settled c.requires.working) c.is_kept.ensures.kept c.memory-in_default-reserve.ensures.2

pub returns-in_default-deques_for-clause-works : goal.returns-in_default-deques_for-clause-works
returns-in_default-deques_for-clause-works g c =
    nothing_done g.D.Disk (λ on. (c.stores_go_on.ensures.rest on).commits) (λ on. (c.stores_go_on.ensures.gates on).rest) c.args.core c.memory-in_default-deques_for.result.full c.requires.working
    (c.is_kept.ensures.settled c.requires.working) c.is_kept.ensures.kept c.memory-in_default-deques_for.ensures.2

pub invariant_of-crew : goal.invariant_of-crew
invariant_of-crew g c =
    let opened = c.in-Ok-open.opened.2 in
    let count : length opened.items ≡ c.args.workers + 1 = ap length c.in-Ok-open.ensures.ok.1 ∙ as_many c.args.blank.envs c.args.blank.workers ∙ c.requires.passes.1 in
    let out = one_out c.pop.result (c.pop.ensures.variant.1 (omega (arith, count, opened.ok))) in
    record { paired = omega (arith, c.in-Ok-deques_for.ensures, count, opened.ok, out, c.pop.ensures.len) }

pub unwrap-boss-requires : goal.unwrap-boss-requires
unwrap-boss-requires g c =
    let opened = c.in-Ok-open.opened.2 in
    let count : length opened.items ≡ c.args.workers + 1 = ap length c.in-Ok-open.ensures.ok.1 ∙ as_many c.args.blank.envs c.args.blank.workers ∙ c.requires.passes.1 in
    c.pop.ensures.variant.1 (omega (arith, count, opened.ok))

pub in_threads-back-requires-clause-room : goal.in_threads-back-requires-clause-room
in_threads-back-requires-clause-room g c =
    let opened = c.in-Ok-open.opened.2 in
    let count : length opened.items ≡ c.args.workers + 1 = ap length c.in-Ok-open.ensures.ok.1 ∙ as_many c.args.blank.envs c.args.blank.workers ∙ c.requires.passes.1 in
    let out = one_out c.pop.result (c.pop.ensures.variant.1 (omega (arith, count, opened.ok))) in
    let len = c.pop.ensures.len in
    let first = c.in-Ok.ensures.ok in
    let second = c.in-Ok-reserve.ensures.ok in
    let both : (vec_len c.pop.new.self + vec_len c.reserve.new.self ≤ vec_capacity c.reserve.new.self) × (vec_len c.pop.new.self + vec_len c.reserve.new.self + vec_len c.reserve-2.new.self + 1 ≤ vec_capacity c.reserve-2.new.self) = (
      omega (arith, count, opened.ok, out, len, first, c.reserve.ensures.len, c.new-handles.ensures.len),
      omega (arith, count, opened.ok, out, len, second, c.reserve.ensures.len, c.reserve-2.ensures.len, c.new-handles.ensures.len, c.new-passes.ensures.len),
    ) in
    λ _ _. both
