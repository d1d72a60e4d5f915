use Rattle.std.proofs.Common.{arith}
use Rattle.graph.proofs.Sheets.{body_first, next_checked, name_is_new, all_checked, its_place}
use Rattle.graph.proofs.Faultless.{fault_passed_on}
use Rattle.graph.proofs.bodies.check_bodies.Goals as goal

pub returns-in_err-checked : goal.returns-in_err-checked
returns-in_err-checked c =
    fault_passed_on _ _ c.from_residual.result _ c.from_residual.ensures.1
    (body_first c.args.tree.now c.loop-number.number _ (omega arith) c.index-step.ensures c.loop-number.steps c.loop-number.invariant _
    c.requires.no_fault c.in_err-checked.ensures)

pub push-requires : goal.push-requires
push-requires c =
    name_is_new c.args.tree.now c.loop-number.number c.index-step.result.now (omega arith) c.index-step.ensures c.loop-number.steps c.loop-number.invariant
    (its_place c.args.tree.now c.args.resolved.now c.requires.small c.requires.no_fault c.requires.resolved c.loop-number.number _ (omega arith) c.index-step.ensures)

pub loop-number-preserved : goal.loop-number-preserved
loop-number-preserved c =
    next_checked c.args.tree.now c.loop-number.number _ (omega arith) c.index-step.ensures c.loop-number.steps c.loop-number.invariant
    c.in_ok-checked.checked _ c.in_ok-push.ensures c.in_ok-checked.ensures

pub returns : goal.returns
returns c = all_checked c.args.tree.now c.loop-number.number c.loop-number.steps (omega arith) c.loop-number.invariant
