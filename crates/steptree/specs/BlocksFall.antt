-- The blocks inside a block are smaller than it, and its statements no larger.
use Rattle.std.specs.Prelude.{◌≡◌, ◌<◌, ◌≤◌, ℕ, zero, suc, List, [], ◌∷◌, length, get_or}
use Rattle.std.proofs.Common.{ap, arith}
use denote.Param.Weighed.{most}
use Rattle.steptree.specs.declared.block.Statement.{Statement}
use Rattle.steptree.specs.declared.block.Block.TheDeep.{deep-Statement}
use Rattle.steptree.specs.Tree.{BlockTree, End, block_size}
use Rattle.steptree.specs.SeenBlocks.{stated, joined}

-- no block inside these statements is larger than their tree
pub falls : {V S : Type 0} (statements : List (Statement V S)) → most (deep-Statement V S) statements ≤ block_size (joined statements End)
falls [] = omega arith
falls (first ∷ others) = grind (arith, falls others)

module _ {V S : Type 0} where
  behind : (first : Statement V S) (rest : BlockTree V S) → block_size rest ≤ block_size (stated first rest)
  behind first rest = grind arith

  some_size : (statements : List (Statement V S)) → 1 ≤ block_size (joined statements End)
  some_size [] = omega arith
  some_size (first ∷ others) = omega (arith, behind first (joined others End), some_size others)

  alone : (first : Statement V S) (others : List (Statement V S)) → block_size (stated first End) ≤ block_size (stated first (joined others End))
  alone first others = grind (arith, some_size others)

  -- no statement is larger than its block
  pub no_larger : (statements : List (Statement V S)) (index : ℕ) (this : Statement V S) → index < length statements → this ≡ get_or statements index this
      → block_size (stated this End) ≤ block_size (joined statements End)
  no_larger [] index this within is = absurd (omega (arith, within))
  no_larger (first ∷ others) zero this within is = omega (arith, alone first others, ap (λ (one : Statement V S). block_size (stated one End)) is)
  no_larger (first ∷ others) (suc index) this within is = omega (arith, behind first (joined others End), no_larger others index this (omega (arith, within)) is)
