use Rattle.std.proofs.Common.{rules}
use Rattle.steptree.specs.Statements.{texts}
use Rattle.steptree.proofs.FirstFaults.{passed_on}
use Rattle.steptree.proofs.Resolving.{first_here, all_resolved}
use Rattle.steptree.proofs.checker.expressions.resolve_components.Goals as goal

pub returns-in_err-expression-clause-faults : goal.returns-in_err-expression-clause-faults
returns-in_err-expression-clause-faults c =
    let this = c.expression-item.result in
    passed_on _ c.from_residual.result c.in_err-expression.field-0.0 c.from_residual.ensures.1
    (first_here (texts c.args.names.now) c.args.expressions.now c.loop-expression.expression-index c.loop-expression.resolved.items this c.loop-expression-test.true c.expression-item.is
    c.loop-expression.invariant c.in_err-expression.field-0.0 c.in_err-expression.ensures.faults)

pub returns-clause-resolves : goal.returns-clause-resolves
returns-clause-resolves c =
    rw c.new.ensures (all_resolved (texts c.args.names.now) c.args.expressions.now c.loop-expression.expression-index c.loop-expression.resolved.items (search rules) c.loop-expression.invariant)
