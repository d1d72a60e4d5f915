use Rattle.std.proofs.Common.{◌≡◌, ◌+◌, suc, subst, FitsSigned, get_or, take, arith, pos, rules, w64}
use Rattle.std.specs.List.{AllByRecursion}
use Rattle.codec.proofs.Appended.{all_take, get_or_any}
use Rattle.codec.proofs.lengths.are_in_range.Goals as goal

pub loop-component-preserved : goal.loop-component-preserved
loop-component-preserved c =
    let list = c.args.components.now in
    let n = c.loop-component.component-index in
    let one = get_or list n (pos 0) in
    let is : one ≡ get_or list n one = get_or_any list n (pos 0) one c.loop-component-test.true in
    let next : suc n ≡ n + 1 = omega arith in
    let ranged : FitsSigned w64 one = search rules in
    subst (λ k. AllByRecursion (FitsSigned w64) (take k list)) next (all_take (FitsSigned w64) list n one c.loop-component-test.true is c.loop-component.invariant ranged)
