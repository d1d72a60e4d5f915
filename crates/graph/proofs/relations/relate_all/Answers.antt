use Rattle.std.proofs.Common.{arith}
use Rattle.graph.proofs.Faultless.{fault_passed_on}
use Rattle.graph.proofs.Relating.{begun, next_related, first_related, all_related}
use Rattle.graph.proofs.relations.relate_all.Goals as goal

pub loop-relation-init : goal.loop-relation-init
loop-relation-init c = λ items tags names numbers long.
    begun items tags names c.args.relations.now c.args.numbers.now c.len.result c.len-2.result c.args.steps c.in_ok-them.them numbers c.len.ensures c.len-2.ensures long c.in_ok-them.ensures

pub returns-in_err-relate : goal.returns-in_err-relate
returns-in_err-relate c = λ items tags names numbers long.
    let so = c.loop-relation.invariant items tags names numbers long in
    fault_passed_on _ _ c.from_residual-in_err-relate.result _ c.from_residual-in_err-relate.ensures.1
    (first_related items tags names c.args.relations.now c.loop-relation.relation-index c.loop-relation.them _ c.loop-relation-test.true so _ (c.in_err-relate.ensures items tags names _ numbers so.are))

pub loop-relation-preserved : goal.loop-relation-preserved
loop-relation-preserved c = λ items tags names numbers long.
    let so = c.loop-relation.invariant items tags names numbers long in
    next_related items tags names c.args.relations.now c.loop-relation.relation-index c.loop-relation.them _ c.loop-relation-test.true so c.relate.new.self (c.in_ok-relate.ensures items tags names _ numbers so.are)

pub returns : goal.returns
returns c = λ items tags names numbers long. all_related items tags names c.args.relations.now c.loop-relation.relation-index c.loop-relation.them (omega arith) (c.loop-relation.invariant items tags names numbers long)
