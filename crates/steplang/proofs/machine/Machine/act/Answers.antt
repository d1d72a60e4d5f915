use Rattle.std.proofs.Common.{◌-◌, ℤ, List, ◌∷◌, ap, ◌∙◌, rules}
use Rattle.steptree.specs.declared.body.TheConstants.{BUDGET}
use Rattle.steptree.specs.declared.simple.Action.{Action}
use Rattle.steptree.specs.Executed.{executed}
use Rattle.steptree.specs.Run.{Read, assigned}
use Rattle.steplang.specs.Machine.{state_of, open_loops, outcome_of_action}
use Rattle.steplang.proofs.Answered.{answers}
use Rattle.steplang.proofs.machine.Machine.act.Goals as goal

pub returns-in-Gets-clause-leads : goal.returns-in-Gets-clause-leads
returns-in-Gets-clause-leads c =
    let old = c.args.self.now in
    let before = c.args.progress.now in (
      search rules,
      λ value reads. ap (λ (a : Action). outcome_of_action a c.args.next old before ((c.in-Gets.address, value) ∷ reads)) c.in-Gets.is
          ∙ answers c.in-Gets.address value reads (λ (v : ℤ) (left : List Read). executed (BUDGET - before.counted) old.code.now (open_loops old) c.args.next (assigned c.in-Gets.variable v (state_of old before left))),
    )
