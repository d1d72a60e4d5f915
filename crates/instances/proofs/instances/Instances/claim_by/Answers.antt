use Rattle.std.proofs.Common.{◌∙◌, ◌<◌, ap, refl, is_some, length, arith}
use Rattle.instances.specs.declared.state.State.TheVariants.{Running}
use Rattle.instances.proofs.Moved.{moved_known, prescribed_known, state_known}
use Rattle.instances.proofs.instances.Instances.claim_by.Goals as goal

pub invariant_of-self-2 : goal.invariant_of-self-2
invariant_of-self-2 c =
    let within : c.args.ticket.now.inst.collection.0 < length c.self.inside.steps.items = omega (arith, c.if-index-len.false, c.len.ensures, c.self.inside.steps.ok.0) in
    let state = state_known c.self.inside.tags c.self.inside.steps.items c.args.ticket.now.inst c.index_mut.result.now c.args.self.now c.self.view_is within c.index_mut.ensures.value in
    prescribed_known c.self.inside.tags c.self.inside.steps.items c.args.ticket.now.inst c.index_mut.result.now c.claim_under.new.self Running c.args.self.now c.args.ticket.now.inst c.self.view_is refl
    (ap is_some (state ∙ (c.if-not-claim_under.ensures.claimed refl).0)) c.index_mut.ensures.value (c.if-not-claim_under.ensures.claimed refl).1 c.self.invariant

pub returns-clause-claimed : goal.returns-clause-claimed
returns-clause-claimed c =
    let within : c.args.ticket.now.inst.collection.0 < length c.self.inside.steps.items = omega (arith, c.if-index-len.false, c.len.ensures, c.self.inside.steps.ok.0) in
    let state = state_known c.self.inside.tags c.self.inside.steps.items c.args.ticket.now.inst c.index_mut.result.now c.args.self.now c.self.view_is within c.index_mut.ensures.value in (
      state ∙ (c.if-not-claim_under.ensures.claimed refl).0,
      moved_known c.self.inside.tags c.self.inside.steps.items c.args.ticket.now.inst c.index_mut.result.now c.claim_under.new.self Running c.args.self.now c.args.ticket.now.inst c.self.view_is refl
          (ap is_some (state ∙ (c.if-not-claim_under.ensures.claimed refl).0)) c.index_mut.ensures.value (c.if-not-claim_under.ensures.claimed refl).1,
    )
