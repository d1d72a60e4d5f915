use Rattle.std.proofs.Common.{◌≡◌, get_or, sym, ◌∙◌, rules, to_z, w64}
use Rattle.steptree.specs.Executed.{pair_of}
use Rattle.steplang.proofs.Chained.{goes_on, faults, next_value, next_fault}
use Rattle.steplang.proofs.value.evaluate_chain.Goals as goal

pub returns-in-Err : goal.returns-in-Err
returns-in-Err c = sym (faults c.args.variables.now (pair_of c.args.first.now) c.args.links.now c.in-Err.kind (sym c.evaluate_pair.ensures ∙ c.in-Err.is))

pub loop-link-init : goal.loop-link-init
loop-link-init c = goes_on c.args.variables.now (pair_of c.args.first.now) c.args.links.now c.in-Ok.value (sym c.evaluate_pair.ensures ∙ c.in-Ok.is) ∙ search rules

pub returns-in-Err-evaluate_link : goal.returns-in-Err-evaluate_link
returns-in-Err-evaluate_link c =
    let links = c.args.links.now in
    let one = c.link-item.result in
    let is : get_or links c.loop-link.link-index one ≡ one = search rules in
    sym (c.loop-link.invariant ∙ next_fault c.args.variables.now links c.loop-link.link-index one (to_z w64 c.loop-link.value-bits) c.in-Err-evaluate_link.kind c.loop-link-test.true is (search rules))

pub loop-link-preserved : goal.loop-link-preserved
loop-link-preserved c =
    let links = c.args.links.now in
    let one = c.link-item.result in
    let is : get_or links c.loop-link.link-index one ≡ one = search rules in
    c.loop-link.invariant ∙ next_value c.args.variables.now links c.loop-link.link-index one (to_z w64 c.loop-link.value-bits) c.in-Ok-evaluate_link.next c.loop-link-test.true is (search rules) ∙ search rules
