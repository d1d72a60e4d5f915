use Rattle.std.proofs.Common.{◌∙◌, ap, sym}
use Rattle.std.specs.Prelude.{is_some, not}
use Rattle.graph.proofs.Checking.{new_name, old_name, one_more_named, so_many}
use Rattle.graph.proofs.steps.number_steps.Goals.{then-is_none+in_ok-push, else-is_none}
use Rattle.graph.proofs.steps.number_steps.Goals as goal

pub loop-number-preserved : goal.loop-number-preserved
loop-number-preserved c =
    let many = so_many c.args.steps.now c.loop-number.number c.index-steps-number.result c.loop-number-test.true c.index-steps-number.is in
    let named = one_more_named c.args.steps.now c.loop-number.number c.index-steps-number.result c.loop-number-test.true c.index-steps-number.is in
    elim c.if-is_none.branch [
      | then-is_none+in_ok-push w ↦ rw (w.numbered-is, w.in_ok-push.ensures, ← named) (new_name _ _ _ _ many c.loop-number.invariant)
      | else-is_none w ↦ rw (w.numbered-is, ← named)
          (old_name _ _ _ (ap is_some (sym c.number.ensures.number) ∙ c.is_none.ensures ∙ ap not w.if-is_none.false) c.loop-number.invariant)
    ]
