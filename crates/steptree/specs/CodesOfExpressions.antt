-- How an expression is written as a list: its parts one after another, each after its operands, and read back with a stack.
use Rattle.std.specs.Prelude.{◌≡◌, ◌⊎◌, ℕ, ℤ, pos, List, [], ◌∷◌, refl}
use Rattle.std.specs.Coded.{Coded, code_by, coded_ℕ, coded_ℤ, coded_list, coded⊎}
use Rattle.std.proofs.Common.{inl, inr, ◌∙◌}
use Rattle.steptree.specs.contracts.expression.Operator as operator_row
use Rattle.steptree.specs.declared.expression.Operator.{Operator}
use Rattle.steptree.specs.Tree.{ExpressionTree, Number, Variable, Negation, Operation}

-- a number, a variable, an operator, or a negation
abbrev pub Part : Type 0 → Type 0
Part V = ℤ ⊎ (V ⊎ (Operator ⊎ ℕ))

abbrev pub parts_of : {V : Type 0} → ExpressionTree V → List (Part V) → List (Part V)
parts_of (Number number) behind = inl number ∷ behind
parts_of (Variable variable) behind = inr (inl variable) ∷ behind
parts_of (Negation operand) behind = parts_of operand (inr (inr (inr 0)) ∷ behind)
parts_of (Operation operator left right) behind = parts_of left (parts_of right (inr (inr (inl operator)) ∷ behind))

abbrev pub on_stack : {V : Type 0} → Part V → List (ExpressionTree V) → List (ExpressionTree V)
on_stack (inl number) stack = Number number ∷ stack
on_stack (inr (inl variable)) stack = Variable variable ∷ stack
on_stack (inr (inr (inl operator))) (right ∷ left ∷ stack) = Operation operator left right ∷ stack
on_stack (inr (inr (inr _))) (operand ∷ stack) = Negation operand ∷ stack
on_stack part stack = stack

abbrev pub read_back : {V : Type 0} → List (Part V) → List (ExpressionTree V) → ExpressionTree V
read_back [] [] = Number (pos 0)
read_back [] (tree ∷ stack) = tree
read_back (part ∷ parts) stack = read_back parts (on_stack part stack)

pub read_parts : {V : Type 0} (tree : ExpressionTree V) (behind : List (Part V)) (stack : List (ExpressionTree V)) → read_back (parts_of tree behind) stack ≡ read_back behind (tree ∷ stack)
read_parts (Number number) behind stack = refl
read_parts (Variable variable) behind stack = refl
read_parts (Negation operand) behind stack = read_parts operand (inr (inr (inr 0)) ∷ behind) stack
read_parts (Operation operator left right) behind stack =
    read_parts left (parts_of right (inr (inr (inl operator)) ∷ behind)) stack ∙ read_parts right (inr (inr (inl operator)) ∷ behind) (left ∷ stack)

abbrev pub expression_code : {V : Type 0} → Coded V → Coded (ExpressionTree V)
expression_code code =
    code_by (List (Part _)) (coded_list (coded⊎ coded_ℤ (coded⊎ code (coded⊎ operator_row.the_row.coded coded_ℕ)))) (λ tree. parts_of tree []) (λ parts. read_back parts []) (λ tree. read_parts tree [] [])
