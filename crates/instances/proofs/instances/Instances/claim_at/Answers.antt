use Rattle.std.proofs.Common.{◌∙◌, ◌<◌, ◌≤◌, ◌^◌, ap, sym, subst, is_some, length, sum_by, arith}
use Rattle.std.proofs.lemmas.List.Sums.{sum_by_more_le}
use Rattle.terms.specs.declared.name.Inst.{Inst}
use Rattle.instances.specs.OfStep.{is_ready, how_many}
use Rattle.instances.specs.Known.{Known, ArePrescribed}
use Rattle.instances.specs.declared.step.Step.{Step}
use Rattle.instances.specs.declared.instances.Instances.TheInside.{Inside}
use Rattle.instances.specs.declared.state.State.TheVariants.{Running}
use Rattle.instances.proofs.Moved.{moved_known, prescribed_known, state_known}
use Rattle.instances.proofs.instances.Instances.claim_at.Goals as goal

abbrev seen : Inside → Known
seen inside = record { tags = inside.tags; steps = inside.steps.items }

pub invariant_of-self-then-left-ready : goal.invariant_of-self-then-left-ready
invariant_of-self-then-left-ready c =
    let instance : Inst = record { collection = record { 0 = c.loop-number.number }; key = c.in_ok-key.key } in
    let known = ap seen c.loop-number.invariant.0 ∙ c.self.view_is in
    let within : c.loop-number.number < length c.loop-number.self-inside.steps.items = omega (arith, c.loop-number-test.true, c.len-number-end.ensures, c.self.inside.steps.ok.0, ap (λ (inside : Inside). length inside.steps.items) c.loop-number.invariant.0) in
    let state = state_known c.loop-number.self-inside.tags c.loop-number.self-inside.steps.items instance c.index_mut.result.now c.args.self.now known within c.index_mut.ensures.value in
    let whole = subst (λ (inside : Inside). (length inside.steps.items ≤ 2 ^ 16) × ArePrescribed inside.tags inside.steps.items) (sym c.loop-number.invariant.0) c.self.invariant in
    prescribed_known c.loop-number.self-inside.tags c.loop-number.self-inside.steps.items instance c.index_mut.result.now c.claim.new.self Running c.args.self.now instance known (λ i. instance)
    (ap is_some (state ∙ c.in_ok-key.ensures.claimed.0)) c.index_mut.ensures.value c.in_ok-key.ensures.claimed.1 whole

pub returns-then-left-ready-clause-none : goal.returns-then-left-ready-clause-none
returns-then-left-ready-clause-none c all_gone =
    let known = ap seen c.loop-number.invariant.0 ∙ c.self.view_is in
    let within : c.loop-number.number < length c.loop-number.self-inside.steps.items = omega (arith, c.loop-number-test.true, c.len-number-end.ensures, c.self.inside.steps.ok.0, ap (λ (inside : Inside). length inside.steps.items) c.loop-number.invariant.0) in
    let more = sum_by_more_le (λ (step : Step). how_many is_ready step.instances.states) c.loop-number.self-inside.steps.items c.loop-number.number c.index.result.now within in
    let here = ap (λ (step : Step). how_many is_ready step.instances.states) c.index.ensures in
    let all = ap (λ (known : Known). sum_by (λ (step : Step). how_many is_ready step.instances.states) known.steps) known in
    absurd (omega (arith, all_gone, more, here, all, c.ready-ready.ensures, c.if-left-ready.true, c.loop-number.invariant.1))

pub returns-then-left-ready-clause-claimed : goal.returns-then-left-ready-clause-claimed
returns-then-left-ready-clause-claimed c =
    let instance : Inst = record { collection = record { 0 = c.loop-number.number }; key = c.in_ok-key.key } in
    let known = ap seen c.loop-number.invariant.0 ∙ c.self.view_is in
    let within : c.loop-number.number < length c.loop-number.self-inside.steps.items = omega (arith, c.loop-number-test.true, c.len-number-end.ensures, c.self.inside.steps.ok.0, ap (λ (inside : Inside). length inside.steps.items) c.loop-number.invariant.0) in
    let state = state_known c.loop-number.self-inside.tags c.loop-number.self-inside.steps.items instance c.index_mut.result.now c.args.self.now known within c.index_mut.ensures.value in (
      state ∙ c.in_ok-key.ensures.claimed.0,
      moved_known c.loop-number.self-inside.tags c.loop-number.self-inside.steps.items instance c.index_mut.result.now c.claim.new.self Running c.args.self.now instance known (λ i. instance)
          (ap is_some (state ∙ c.in_ok-key.ensures.claimed.0)) c.index_mut.ensures.value c.in_ok-key.ensures.claimed.1,
    )
