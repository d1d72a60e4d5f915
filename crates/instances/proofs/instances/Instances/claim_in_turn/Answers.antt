use Rattle.std.proofs.Common.{◌∙◌, ◌<◌, ◌≤◌, ◌^◌, ap, sym, subst, is_some, length, arith}
use Rattle.terms.specs.declared.name.Inst.{Inst}
use Rattle.instances.specs.Known.{Known, ArePrescribed}
use Rattle.instances.specs.declared.instances.Instances.TheInside.{Inside}
use Rattle.instances.specs.declared.state.State.TheVariants.{Running}
use Rattle.instances.proofs.Moved.{moved_known, prescribed_known, state_known}
use Rattle.instances.proofs.instances.Instances.claim_in_turn.Goals as goal

abbrev seen : Inside → Known
seen inside = record { tags = inside.tags; steps = inside.steps.items }

pub invariant_of-self-then-ready-gt0 : goal.invariant_of-self-then-ready-gt0
invariant_of-self-then-ready-gt0 c =
    let instance : Inst = record { collection = record { 0 = c.loop-number.number }; key = c.in_ok-key.key } in
    let known = ap seen c.loop-number.invariant ∙ c.self.view_is in
    let within : c.loop-number.number < length c.loop-number.self-inside.steps.items = omega (arith, c.loop-number-test.true, c.len-number-end.ensures, c.self.inside.steps.ok.0, ap (λ (inside : Inside). length inside.steps.items) c.loop-number.invariant) in
    let state = state_known c.loop-number.self-inside.tags c.loop-number.self-inside.steps.items instance c.index_mut.result.now c.args.self.now known within c.index_mut.ensures.value in
    let whole = subst (λ (inside : Inside). (length inside.steps.items ≤ 2 ^ 16) × ArePrescribed inside.tags inside.steps.items) (sym c.loop-number.invariant) c.self.invariant in
    prescribed_known c.loop-number.self-inside.tags c.loop-number.self-inside.steps.items instance c.index_mut.result.now c.claim.new.self Running c.args.self.now instance known (λ i. instance)
    (ap is_some (state ∙ c.in_ok-key.ensures.claimed.0)) c.index_mut.ensures.value c.in_ok-key.ensures.claimed.1 whole

pub returns-then-ready-gt0-clause-claimed : goal.returns-then-ready-gt0-clause-claimed
returns-then-ready-gt0-clause-claimed c =
    let instance : Inst = record { collection = record { 0 = c.loop-number.number }; key = c.in_ok-key.key } in
    let known = ap seen c.loop-number.invariant ∙ c.self.view_is in
    let within : c.loop-number.number < length c.loop-number.self-inside.steps.items = omega (arith, c.loop-number-test.true, c.len-number-end.ensures, c.self.inside.steps.ok.0, ap (λ (inside : Inside). length inside.steps.items) c.loop-number.invariant) in
    let state = state_known c.loop-number.self-inside.tags c.loop-number.self-inside.steps.items instance c.index_mut.result.now c.args.self.now known within c.index_mut.ensures.value in (
      state ∙ c.in_ok-key.ensures.claimed.0,
      moved_known c.loop-number.self-inside.tags c.loop-number.self-inside.steps.items instance c.index_mut.result.now c.claim.new.self Running c.args.self.now instance known (λ i. instance)
          (ap is_some (state ∙ c.in_ok-key.ensures.claimed.0)) c.index_mut.ensures.value c.in_ok-key.ensures.claimed.1,
    )
