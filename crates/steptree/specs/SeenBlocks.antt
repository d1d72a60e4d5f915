-- A block is seen as its tree.
use Rattle.std.specs.Prelude.{ℕ, List, [], ◌∷◌}
use Rattle.steptree.specs.declared.block.Statement.{Statement}
use Rattle.steptree.specs.declared.block.Statement.TheVariants as statement
use Rattle.steptree.specs.declared.step.Name.{Name}
use Rattle.steptree.specs.Tree.{BlockTree, End, Do, If, For}
use Rattle.steptree.specs.Simple.{NumberedSimple, NamedSimple}

-- a statement with slots and numbers, and one with names
abbrev pub NumberedStatement : Type 0
NumberedStatement = Statement ℕ NumberedSimple

abbrev pub NamedStatement : Type 0
NamedStatement = Statement Name NamedSimple

module _ {V S : Type 0} where
  -- the tree that begins with this statement and goes on with `rest`; the blocks inside the statement are trees already
  abbrev pub stated : Statement V S → BlockTree V S → BlockTree V S
  stated (statement.Simple simple) rest = Do simple rest
  stated (statement.If condition first second) rest = If condition first second rest
  stated (statement.For variable from to block) rest = For variable from to block rest

  -- the tree of these statements, one after another, and then `rest`
  abbrev pub joined : List (Statement V S) → BlockTree V S → BlockTree V S
  joined [] rest = rest
  joined (first ∷ others) rest = stated first (joined others rest)

  -- the tree of a block
  abbrev pub block_seen : List (Statement V S) → BlockTree V S
  block_seen statements = joined statements End
