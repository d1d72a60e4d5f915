use Rattle.std.proofs.Common.{arith}
use Rattle.graph.proofs.PrescribedSteps.{value_prescribed, no_value}
use Rattle.graph.proofs.prescriptions.prescriptions.Goals.{in-Some+in_ok-add_step, in_default}
use Rattle.graph.proofs.prescriptions.prescriptions.Goals as goal

pub loop-number-preserved : goal.loop-number-preserved
loop-number-preserved c =
    elim c.match-value.branch [
      | in-Some+in_ok-add_step w ↦
          rw (w.lists-is, w.in_ok-add_step.ensures)
          (value_prescribed c.args.steps.now c.loop-number.number c.args.tags _ _ (omega arith) (rw w.in-Some.is at c.value.ensures) c.requires.prescribed c.loop-number.invariant)
      | in_default w ↦ absurd (no_value c.args.steps.now c.loop-number.number (omega arith) (rw w.in_default.is at c.value.ensures))
    ]
