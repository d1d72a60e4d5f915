use Rattle.std.proofs.Common.{◌∙◌, arith}
use Rattle.graph.proofs.Checking.{first_prescription, first_name, next_step, all_checked}
use Rattle.graph.proofs.Faultless.{fault_passed_on}
use Rattle.graph.proofs.steps.check_steps.Goals as goal

pub returns-in_err-is_prescribed : goal.returns-in_err-is_prescribed
returns-in_err-is_prescribed c = λ items all are places.
    fault_passed_on _ _ c.from_residual.result _ c.from_residual.ensures.1
    (first_prescription c.args.tags.now items all c.args.steps.now c.args.relations.now are c.loop-number.number c.index-steps-number.result c.loop-number-test.true c.index-steps-number.is
    (c.loop-number.invariant items all are places) _ (c.copied.ensures ∙ c.get.ensures ∙ places _) _ c.ne-twice.ensures _ c.index.ensures _ c.components-components.ensures
    _ c.in_err-is_prescribed.ensures)

pub returns-in_err-names_differ : goal.returns-in_err-names_differ
returns-in_err-names_differ c = λ items all are places.
    fault_passed_on _ _ c.from_residual-in_err-names_differ.result _ c.from_residual-in_err-names_differ.ensures.1
    (first_name c.args.tags.now items all c.args.steps.now c.args.relations.now are c.loop-number.number c.index-steps-number.result c.loop-number-test.true c.index-steps-number.is
    (c.loop-number.invariant items all are places) _ (c.copied.ensures ∙ c.get.ensures ∙ places _) _ c.ne-twice.ensures _ c.index.ensures _ c.components-components.ensures
    _ c.in_ok-is_prescribed.ensures c.in_err-names_differ.ensures)

pub loop-number-preserved : goal.loop-number-preserved
loop-number-preserved c = λ items all are places.
    next_step c.args.tags.now items all c.args.steps.now c.args.relations.now are c.loop-number.number c.index-steps-number.result c.loop-number-test.true c.index-steps-number.is
    (c.loop-number.invariant items all are places) _ (c.copied.ensures ∙ c.get.ensures ∙ places _) _ c.ne-twice.ensures _ c.index.ensures _ c.components-components.ensures
    c.in_ok-is_prescribed.ensures c.in_ok-names_differ.ensures

pub returns : goal.returns
returns c = λ items all are places. all_checked c.args.tags.now items all c.args.steps.now c.args.relations.now are c.loop-number.number (omega arith) (c.loop-number.invariant items all are places)
