use Rattle.std.proofs.Common.{◌<◌, ◌≤◌, length, None, Some, subst, arith, rules}
use Rattle.syntax.specs.Parsed.{left}
use Rattle.syntax.specs.Partial.{GoesOn, Fewer}
use Rattle.syntax.specs.Whole.{Reached}
use Rattle.syntax.proofs.Returned.{as_ok, as_err}
use Rattle.syntax.proofs.Wholes.{begun_on, product_on, expression_read, expression_stops, some_comparing}
use Rattle.syntax.proofs.expressions.expression.Goals as goal

pub loop-product-preserved-in-None : goal.loop-product-preserved-in-None
loop-product-preserved-in-None c = λ comparing may fresh.
    let start = left c.args.cursor.now in
    let now = left c.loop-product.cursor in
    let reached = subst (λ product. Reached comparing start now product c.loop-product.partial) c.in-None.is (c.loop-product.invariant comparing may fresh) in
    begun_on comparing start now (left c.begin.new.cursor) c.in_ok-product-in-None.product c.loop-product.partial c.begin.new.self reached c.in_ok-product-in-None.ensures.follows (search rules)

pub loop-product-preserved-in-AwaitsOperand : goal.loop-product-preserved-in-AwaitsOperand
loop-product-preserved-in-AwaitsOperand c = λ comparing may fresh.
    let start = left c.args.cursor.now in
    let now = left c.loop-product.cursor in
    let after = left c.go_on.new.cursor in
    let reached = subst (λ product. Reached comparing start now product c.loop-product.partial) c.in-Some-product.is (c.loop-product.invariant comparing may fresh) in
    product_on comparing start now after c.in-Some-product.operand None c.loop-product.partial c.go_on.new.self reached
    (λ state prod is nothing holds. subst (λ it. GoesOn state prod now after it c.go_on.new.self) c.in-AwaitsOperand.is (c.in_ok-go_on-in-Some-product.ensures.goes_on state prod is nothing holds))
    (subst (λ it. Fewer it (length now) (length after)) c.in-AwaitsOperand.is c.in_ok-go_on-in-Some-product.ensures.fewer)

pub loop-product-preserved : goal.loop-product-preserved
loop-product-preserved c = λ comparing may fresh.
    let start = left c.args.cursor.now in
    let now = left c.loop-product.cursor in
    let after = left c.go_on.new.cursor in
    let reached = subst (λ product. Reached comparing start now product c.loop-product.partial) c.in-Some-product.is (c.loop-product.invariant comparing may fresh) in
    product_on comparing start now after c.in-Some-product.operand (Some c.in-HasProduct.operand) c.loop-product.partial c.go_on.new.self reached
    (λ state prod is nothing holds. subst (λ it. GoesOn state prod now after it c.go_on.new.self) c.in-HasProduct.is (c.in_ok-go_on-in-Some-product.ensures.goes_on state prod is nothing holds))
    (subst (λ it. Fewer it (length now) (length after)) c.in-HasProduct.is c.in_ok-go_on-in-Some-product.ensures.fewer)

pub returns-in-Ends-clause-reads : goal.returns-in-Ends-clause-reads
returns-in-Ends-clause-reads c = as_ok c.in_ok-finish-in-Ends.field-0 _ _ c.in_ok-finish-in-Ends.ensures.within (λ tree within comparing may fresh.
    let start = left c.args.cursor.now in
    let now = left c.loop-product.cursor in
    let after = left c.go_on.new.cursor in
    let reached = subst (λ product. Reached comparing start now product c.loop-product.partial) c.in-Some-product.is (c.loop-product.invariant comparing may fresh) in
    expression_read comparing start now after c.in-Some-product.operand c.in-Ends.product c.loop-product.partial c.go_on.new.self tree reached
    (λ state prod is nothing holds. subst (λ it. GoesOn state prod now after it c.go_on.new.self) c.in-Ends.is (c.in_ok-go_on-in-Some-product.ensures.goes_on state prod is nothing holds))
    within)

pub returns-in-Ends-clause-fewer : goal.returns-in-Ends-clause-fewer
returns-in-Ends-clause-fewer c =
    let start = left c.args.cursor.now in
    let now = left c.loop-product.cursor in
    let after = left c.go_on.new.cursor in
    let some = some_comparing c.args.may_compare in
    let reached = subst (λ product. Reached some.0 start now product c.loop-product.partial) c.in-Some-product.is (c.loop-product.invariant some.0 some.1 some.2) in
    let less : length after ≤ length now = subst (λ it. Fewer it (length now) (length after)) c.in-Ends.is c.in_ok-go_on-in-Some-product.ensures.fewer in
    let fewer : length after < length start = omega (arith, reached.6, less) in
    search rules

pub returns-in-Ends-clause-stops : goal.returns-in-Ends-clause-stops
returns-in-Ends-clause-stops c = as_err c.in_ok-finish-in-Ends.field-0 _ _ c.in_ok-finish-in-Ends.ensures.stops (λ cause told comparing may fresh.
    let start = left c.args.cursor.now in
    let now = left c.loop-product.cursor in
    let after = left c.go_on.new.cursor in
    let reached = subst (λ product. Reached comparing start now product c.loop-product.partial) c.in-Some-product.is (c.loop-product.invariant comparing may fresh) in
    expression_stops comparing start now after c.in-Some-product.operand c.in-Ends.product c.loop-product.partial c.go_on.new.self cause reached
    (λ state prod is nothing holds. subst (λ it. GoesOn state prod now after it c.go_on.new.self) c.in-Ends.is (c.in_ok-go_on-in-Some-product.ensures.goes_on state prod is nothing holds))
    told)
