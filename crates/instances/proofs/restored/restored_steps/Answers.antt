use Rattle.std.proofs.Common.{◌≤◌, length, length-take-le, get_or, refl, take, arith}
use Rattle.std.proofs.lemmas.List.{take_more}
use Rattle.terms.specs.declared.name.TagCollection.{TagCollection}
use Rattle.instances.specs.declared.step.Step.{Step}
use Rattle.instances.proofs.AllRestored.{one_more}
use Rattle.instances.proofs.restored.restored_steps.Goals as goal

pub loop-number-preserved : goal.loop-number-preserved
loop-number-preserved c =
    let prescriber : TagCollection = get_or c.args.prescribers.now c.loop-number.number (record { 0 = 0 }) in
    let step : Step = record { prescriber = prescriber; instances = c.in_ok-instances.instances } in
    let within : c.loop-number.number ≤ length c.args.prescribers.now = omega (arith, c.loop-number-test.true) in
    rw (c.in_ok-push.ensures.items, take_more c.args.prescribers.now c.loop-number.number (record { 0 = 0 }) c.loop-number-test.true)
    (one_more c.args.tags.now.items c.args.ended.now.items 0 c.loop-number.number (take c.loop-number.number c.args.prescribers.now) c.loop-number.steps.items prescriber step
    (omega (arith, length-take-le c.loop-number.number c.args.prescribers.now within)) c.loop-number.invariant refl c.in_ok-instances.ensures)
