-- An expression is seen as its tree.
use Rattle.steptree.specs.declared.expression.Node.{Node}
use Rattle.steptree.specs.declared.expression.Node.TheVariants as node
use Rattle.steptree.specs.Tree.{ExpressionTree, Number, Variable, Negation, Operation}

-- the boxes inside it already hold trees
abbrev pub expression_seen : {V : Type 0} → Node V → ExpressionTree V
expression_seen (node.Number number) = Number number
expression_seen (node.Variable variable) = Variable variable
expression_seen (node.Negation operand) = Negation operand.value
expression_seen (node.Operation operator operands) = Operation operator operands.value.0 operands.value.1
