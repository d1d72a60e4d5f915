use Rattle.steptree.specs.Statements.{texts}
use Rattle.steptree.proofs.Resolving.{SoFar}
use Rattle.steptree.proofs.checker.expressions.resolve_components.Given as goal

-- the expressions so far are resolved, and none of them has a fault
abbrev pub invariant-loop-expression : goal.invariant-loop-expression
invariant-loop-expression l = SoFar (texts l.names) l.expressions l.expression-index l.resolved.items
