-- How a block is written as a list: its statements one after another, each after the blocks inside it, and read back with a stack.
use Rattle.std.specs.Prelude.{◌≡◌, ◌⊎◌, ℕ, List, [], ◌∷◌, refl}
use Rattle.std.specs.Coded.{Coded, code_by, coded_ℕ, coded_list, coded×, coded⊎}
use Rattle.std.proofs.Common.{inl, inr, ◌∙◌}
use Rattle.steptree.specs.CodesOfExpressions.{expression_code}
use Rattle.steptree.specs.Tree.{ExpressionTree, BlockTree, End, Do, If, For}

-- the parts of a statement that are not blocks: of the end, of `Do`, of `If` and of `For`
abbrev pub Part : Type 0 → Type 0 → Type 0
Part V S = ℕ ⊎ (S ⊎ (ExpressionTree V ⊎ (V × (ExpressionTree V × ExpressionTree V))))

module _ {V S : Type 0} where
  abbrev ends : Part V S
  ends = inl 0

  abbrev does : S → Part V S
  does statement = inr (inl statement)

  abbrev chooses : ExpressionTree V → Part V S
  chooses condition = inr (inr (inl condition))

  abbrev repeats : V → ExpressionTree V → ExpressionTree V → Part V S
  repeats variable from to = inr (inr (inr (variable, (from, to))))

  abbrev pub parts_of : BlockTree V S → List (Part V S) → List (Part V S)
  parts_of End behind = ends ∷ behind
  parts_of (Do statement rest) behind = parts_of rest (does statement ∷ behind)
  parts_of (If condition first second rest) behind = parts_of first (parts_of second (parts_of rest (chooses condition ∷ behind)))
  parts_of (For variable from to block rest) behind = parts_of block (parts_of rest (repeats variable from to ∷ behind))

  abbrev pub on_stack : Part V S → List (BlockTree V S) → List (BlockTree V S)
  on_stack (inl _) stack = End ∷ stack
  on_stack (inr (inl statement)) (rest ∷ stack) = Do statement rest ∷ stack
  on_stack (inr (inr (inl condition))) (rest ∷ second ∷ first ∷ stack) = If condition first second rest ∷ stack
  on_stack (inr (inr (inr p))) (rest ∷ block ∷ stack) = For p.0 p.1.0 p.1.1 block rest ∷ stack
  on_stack part stack = stack

  abbrev pub read_back : List (Part V S) → List (BlockTree V S) → BlockTree V S
  read_back [] [] = End
  read_back [] (tree ∷ stack) = tree
  read_back (part ∷ parts) stack = read_back parts (on_stack part stack)

  pub read_parts : (tree : BlockTree V S) (behind : List (Part V S)) (stack : List (BlockTree V S)) → read_back (parts_of tree behind) stack ≡ read_back behind (tree ∷ stack)
  read_parts End behind stack = refl
  read_parts (Do statement rest) behind stack = read_parts rest (does statement ∷ behind) stack
  read_parts (If condition first second rest) behind stack =
      read_parts first (parts_of second (parts_of rest (chooses condition ∷ behind))) stack
      ∙ read_parts second (parts_of rest (chooses condition ∷ behind)) (first ∷ stack)
      ∙ read_parts rest (chooses condition ∷ behind) (second ∷ first ∷ stack)
  read_parts (For variable from to block rest) behind stack =
      read_parts block (parts_of rest (repeats variable from to ∷ behind)) stack ∙ read_parts rest (repeats variable from to ∷ behind) (block ∷ stack)

  abbrev pub part_code : Coded V → Coded S → Coded (Part V S)
  part_code v s = coded⊎ coded_ℕ (coded⊎ s (coded⊎ (expression_code v) (coded× v (coded× (expression_code v) (expression_code v)))))

  abbrev pub block_code : Coded V → Coded S → Coded (BlockTree V S)
  block_code v s = code_by (List (Part V S)) (coded_list (part_code v s)) (λ tree. parts_of tree []) (λ parts. read_back parts []) (λ tree. read_parts tree [] [])
