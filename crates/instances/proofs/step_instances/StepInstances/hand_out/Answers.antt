use Rattle.std.proofs.Common.{◌∙◌, ap, sym}
use Rattle.std.specs.FinMap.{get}
use Rattle.std.proofs.lemmas.Option.{IfSome_then}
use Rattle.std.proofs.lemmas.Result.{IfOk-weaker}
use Rattle.instances.proofs.Changes.{in_any_order, is_one}
use Rattle.instances.proofs.step_instances.StepInstances.hand_out.Goals as goal

pub invariant_of-self : goal.invariant_of-self
invariant_of-self c = (rw c.hand_out.ensures.capacity (in_any_order _ _ _ _ _ c.self.invariant.0 c.hand_out.ensures.keys), c.self.invariant.1)

pub returns-clause-ready : goal.returns-clause-ready
returns-clause-ready c =
    IfOk-weaker c.hand_out.result _ _
    (λ handed some. IfSome_then handed some (λ key among. sym (ap (λ seen. get seen.states key) c.self.view_is) ∙ is_one _ key _ _ _ c.self.invariant.0 among.others among.taken))
    c.hand_out.ensures.handed
