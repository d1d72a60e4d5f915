use Rattle.std.proofs.Common.{◌≡◌, get_or, arith, pos, rules}
use Rattle.codec.specs.Filling.{Fills}
use Rattle.codec.specs.Spelling.{value_bytes}
use Rattle.codec.proofs.Appended.{get_or_any}
use Rattle.codec.proofs.Filled.{fills_more, first_long}
use Rattle.codec.proofs.filling.fill_components.Goals as goal

pub fill_value-place-requires : goal.fill_value-place-requires
fill_value-place-requires c = omega (arith, c.requires, c.loop-component.invariant.end_is, c.loop-component.invariant.length_stays, c.loop-component-test.true, first_long c.args.components.now c.loop-component.component-index (omega (arith, c.loop-component-test.true)))

pub loop-component-preserved : goal.loop-component-preserved
loop-component-preserved c =
    let list = c.args.components.now in
    let n = c.loop-component.component-index in
    let one = get_or list n (pos 0) in
    let is : one ≡ get_or list n one = get_or_any list n (pos 0) one c.loop-component-test.true in
    let more : Fills (value_bytes one) c.loop-component.place c.loop-component.out c.fill_value-place.new.out c.fill_value-place.result = search rules in
    fills_more value_bytes list n one c.args.place c.loop-component.place c.fill_value-place.result c.args.out.now c.loop-component.out c.fill_value-place.new.out c.loop-component-test.true is c.loop-component.invariant more
