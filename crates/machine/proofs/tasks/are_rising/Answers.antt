use Rattle.std.proofs.Common.{◌≡◌, ◌∙◌, ◌-◌, Less, Some, slice_get, sym, arith}
use Rattle.terms.specs.Name.{inst_cmp}
use Rattle.machine.proofs.Rising.{less_of, rises_on, rising_once}
use Rattle.machine.proofs.tasks.are_rising.Goals as goal

pub loop-number-init : goal.loop-number-init
loop-number-init c = λ place default within. absurd (omega (arith, within))

pub loop-number-preserved : goal.loop-number-preserved
loop-number-preserved c =
    let list = c.args.tasks.now in
    let n = c.loop-number.number in
    let before = c.unwrap-before.result in
    let this = c.unwrap-inst.result in
    let was : slice_get list (n - 1) ≡ Some before = sym c.get.ensures ∙ c.unwrap-before.ensures in
    let is : slice_get list n ≡ Some this = sym c.get-in-loop-number.ensures ∙ c.unwrap-inst.ensures in
    let less : inst_cmp before this ≡ Less = sym c.inst_order.ensures ∙ less_of c.inst_order.result (sym c.is_lt.ensures ∙ c.if-not-is_lt.false) in
    rises_on list n before this c.loop-number.auto.number was is less c.loop-number.invariant

pub returns : goal.returns
returns c = λ _. rising_once c.args.tasks.now c.loop-number.number (omega (arith, c.loop-number-test.false, c.len-number-end.ensures)) c.loop-number.invariant
