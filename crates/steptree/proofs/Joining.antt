-- Statements, one after another.
use Rattle.std.proofs.Common.{◌≡◌, ◌<◌, ℕ, ◌+◌, List, [], ◌∷◌, ◌++◌, length, drop, get_or, refl, ap}
use Rattle.steptree.specs.declared.block.Statement.{Statement}
use Rattle.steptree.specs.Tree.{BlockTree, End}
use Rattle.steptree.specs.SeenBlocks.{stated, joined}
use Rattle.steptree.proofs.Lists.{opened}

module _ {V S : Type 0} where
  -- the last statement stands right in front of the block
  pub joined_last : (statements : List (Statement V S)) (last : Statement V S) (block : BlockTree V S) → joined (statements ++ last ∷ []) block ≡ joined statements (stated last block)
  joined_last [] last block = refl
  joined_last (first ∷ statements) last block = ap (stated first) (joined_last statements last block)

  -- the statement at an index, and those after it
  pub from_index : (statements : List (Statement V S)) (index : ℕ) (this : Statement V S) → index < length statements → this ≡ get_or statements index this
      → joined (drop index statements) End ≡ stated this (joined (drop (index + 1) statements) End)
  from_index statements index this within is = ap (λ (l : List (Statement V S)). joined l End) (opened statements index this within is)
