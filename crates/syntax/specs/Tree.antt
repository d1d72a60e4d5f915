-- The tree of a derivation: names with their texts and positions; sums and products associate to the left.
use Rattle.std.specs.Prelude.{◌≡◌, ⊤, pos, List, [], ◌∷◌}
use Rattle.steptree.specs.declared.expression.Operator.{Operator}
use Rattle.steptree.specs.declared.expression.Operator.TheVariants as operator
use Rattle.steptree.specs.declared.step.Name.{Name}
use Rattle.steptree.specs.Tree.{NamedExpression, Number, Variable, Negation, Operation}
use Rattle.steptree.specs.Tree as block
use Rattle.steptree.specs.Simple.{NamedSimple, NamedBlock}
use Rattle.steptree.specs.declared.simple.Simple.TheVariants as simple
use Rattle.syntax.specs.Grammar.{Named, Comparison, equal, not_equal, less, less_or_equal, greater, greater_or_equal, Addition, plus, minus, Multiplication, times, over, modulo, Expr, sum_alone, compared, Sum, prod_alone, added, Prod, unary_alone, multiplied, Unary, negated, literal, variable, bracketed, Sums, no_sums, sums, Key, Statement, own, assigned, if_alone, if_else, for, Statements, no_more, and_then}

abbrev pub IsName : Named → Name → Type 0
IsName it name = (name.text.now ≡ it.0) × (name.place ≡ it.1)

-- the two lists match, element by element
abbrev pub AreAll : {X Y : Type 0} → (X → Y → Type 0) → List X → List Y → Type 0
AreAll is [] [] = ⊤
AreAll is (x ∷ xs) (y ∷ ys) = is x y × AreAll is xs ys
AreAll is xs ys = ⊥

-- ---- expressions

abbrev pub comparison_operator : Comparison → Operator
comparison_operator equal = operator.Equal
comparison_operator not_equal = operator.NotEqual
comparison_operator less = operator.Less
comparison_operator less_or_equal = operator.LessOrEqual
comparison_operator greater = operator.Greater
comparison_operator greater_or_equal = operator.GreaterOrEqual

abbrev pub addition_operator : Addition → Operator
addition_operator plus = operator.Add
addition_operator minus = operator.Subtract

abbrev pub multiplication_operator : Multiplication → Operator
multiplication_operator times = operator.Multiply
multiplication_operator over = operator.Divide
multiplication_operator modulo = operator.Remainder

abbrev mutual
  pub IsExpr : Expr → NamedExpression → Type 0
  IsExpr (sum_alone sum) expression = IsSum sum expression
  IsExpr (compared left how right) (Operation between one two) = (between ≡ comparison_operator how) × IsSum left one × IsSum right two
  IsExpr (compared left how right) expression = ⊥

  pub IsSum : Sum → NamedExpression → Type 0
  IsSum (prod_alone prod) expression = IsProd prod expression
  IsSum (added left how right) (Operation between one two) = (between ≡ addition_operator how) × IsSum left one × IsProd right two
  IsSum (added left how right) expression = ⊥

  pub IsProd : Prod → NamedExpression → Type 0
  IsProd (unary_alone unary) expression = IsUnary unary expression
  IsProd (multiplied left how right) (Operation between one two) = (between ≡ multiplication_operator how) × IsProd left one × IsUnary right two
  IsProd (multiplied left how right) expression = ⊥

  pub IsUnary : Unary → NamedExpression → Type 0
  IsUnary (negated position unary) (Negation operand) = IsUnary unary operand
  IsUnary (literal position value) (Number it) = it ≡ pos value
  IsUnary (variable it) (Variable other) = IsName it other
  IsUnary (bracketed position expr) expression = IsExpr expr expression
  IsUnary unary expression = ⊥

abbrev pub AreSums : Sums → List NamedExpression → Type 0
AreSums no_sums expressions = expressions ≡ []
AreSums (sums first more) expressions = AreAll IsSum (first ∷ more) expressions

abbrev pub IsKey : Key → Name → List NamedExpression → Type 0
IsKey key name expressions = IsName key.collection name × AreSums key.components expressions

-- ---- statements

abbrev pub IsAssigned : Named → Expr → NamedSimple → Type 0
IsAssigned it expr (simple.Assign name value) = IsName it name × IsExpr expr value
IsAssigned it expr statement = ⊥

module _ {B : Type 0} (IsOwn : B → NamedSimple → Type 0) where
  -- the block begins with this statement, and its rest satisfies `IsRest`; an `if` without `else` has an empty second block
  abbrev mutual
    pub IsStatement : Statement B → NamedBlock → (NamedBlock → Type 0) → Type 0
    IsStatement (own it) (block.Do statement rest) IsRest = IsOwn it statement × IsRest rest
    IsStatement (assigned it expr) (block.Do statement rest) IsRest = IsAssigned it expr statement × IsRest rest
    IsStatement (if_alone condition _ first) (block.If value one two rest) IsRest =
        IsExpr condition value × AreStatements first one × (two ≡ block.End) × IsRest rest
    IsStatement (if_else condition _ first _ second) (block.If value one two rest) IsRest =
        IsExpr condition value × AreStatements first one × AreStatements second two × IsRest rest
    IsStatement (for it from to _ inner) (block.For name low high other rest) IsRest =
        IsName it name × IsExpr from low × IsExpr to high × AreStatements inner other × IsRest rest
    IsStatement statement other IsRest = ⊥

    pub AreStatements : Statements B → NamedBlock → Type 0
    AreStatements no_more other = other ≡ block.End
    AreStatements (and_then first more) other = IsStatement first other (AreStatements more)
