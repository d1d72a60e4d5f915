use Rattle.std.proofs.Common.{◌≡◌, ◌<◌, length, get_or, rules, arith, ◌∙◌, to_z, of_z, w64}
use Rattle.std.specs.Prelude.{Ok}
use Rattle.steptree.specs.Values.{value_of}
use Rattle.steplang.proofs.Values.{one_more}
use Rattle.steplang.proofs.value.evaluate_key.Goals as goal

pub loop-index-preserved : goal.loop-index-preserved
loop-index-preserved c =
    let expressions = c.as_slice-expressions.result.now in
    let this = c.index-expressions-index.result in
    let room : c.loop-index.index < length c.loop-index.values = omega (arith, c.loop-index.invariant.0, c.loop-index-test.true, c.as_slice-expressions.ensures.few) in
    let within : c.loop-index.index < length expressions = search rules in
    let value = to_z w64 (of_z w64 c.in_ok-values.field-0) in
    let gives : value_of (get_or expressions c.loop-index.index this) c.args.variables.now ≡ Ok value = search rules in
    (search rules, c.loop-index.invariant.1 ∙ one_more expressions c.args.variables.now c.loop-index.values c.loop-index.index value this room within gives)
