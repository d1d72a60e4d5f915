-- Expressions and blocks as trees, wherever their parts lie in memory: with slots, or with names.
use Rattle.std.specs.Prelude.{◌+◌, ℕ, suc, ℤ}
use Rattle.steptree.specs.declared.expression.Operator.{Operator}
use Rattle.steptree.specs.declared.step.Name.{Name}

-- an expression over the values of the variables
pub data ExpressionTree (V : Type 0) : Type 0 where
  Number : ℤ → ExpressionTree V
  Variable : V → ExpressionTree V
  Negation : ExpressionTree V → ExpressionTree V
  Operation : Operator → ExpressionTree V → ExpressionTree V → ExpressionTree V

-- The statements of a block: the first, and as its last part the statements after it. A variable is a `V`, and a statement
-- without blocks inside it an `S`.
pub data BlockTree (V S : Type 0) : Type 0 where
  End : BlockTree V S
  -- does a statement without blocks
  Do : S → BlockTree V S → BlockTree V S
  -- the first block if the condition is not 0, else the second
  If : ExpressionTree V → BlockTree V S → BlockTree V S → BlockTree V S → BlockTree V S
  -- the block once for each value of a variable, from the first number up to but not including the second
  For : V → ExpressionTree V → ExpressionTree V → BlockTree V S → BlockTree V S → BlockTree V S

-- with slots
abbrev pub Expression : Type 0
Expression = ExpressionTree ℕ

-- with names
abbrev pub NamedExpression : Type 0
NamedExpression = ExpressionTree Name

-- how many parts an expression has
abbrev pub expression_size : {V : Type 0} → ExpressionTree V → ℕ
expression_size (Number number) = 1
expression_size (Variable variable) = 1
expression_size (Negation operand) = suc (expression_size operand)
expression_size (Operation operator left right) = suc (expression_size left + expression_size right)

-- how many statements and ends of blocks a block has
abbrev pub block_size : {V S : Type 0} → BlockTree V S → ℕ
block_size End = 1
block_size (Do statement rest) = suc (block_size rest)
block_size (If condition first second rest) = suc (block_size first + block_size second + block_size rest)
block_size (For variable from to block rest) = suc (block_size block + block_size rest)
