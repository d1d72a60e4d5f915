-- Statements of one derivation differ only in where their parts are in memory: all that they stand for is one block.
use Rattle.std.proofs.Common.{◌≡◌, List, [], ◌∷◌, sym, ◌∙◌, ℕ, Some, refl, ap, arith}
use Rattle.std.specs.Prelude.{⊤}
use Rattle.steptree.specs.declared.step.Name.{Name}
use Rattle.steptree.specs.Tree as tree
use Rattle.steptree.specs.Tree.{NamedExpression, Number, Variable, Negation, Operation, End, Do, If, For, Expression}
use Rattle.steptree.specs.Simple.{NumberedSimple, NamedSimple, Block, NamedBlock, NamedUse, Target, Value, ItemRead, ItemPut, TagPut, form_of, uses_of}
use Rattle.syntax.specs.Grammar.{Named, Expr, sum_alone, compared, Sum, prod_alone, added, Prod, unary_alone, multiplied, Unary, negated, literal, variable, bracketed, Sums, no_sums, sums, Key, Statement, own, assigned, if_alone, if_else, for, Statements, no_more, and_then}
use Rattle.syntax.specs.Tree.{IsName, AreAll, IsExpr, IsSum, IsProd, IsUnary, AreSums, IsKey, IsAssigned, IsStatement, AreStatements}
use Rattle.steptree.specs.Names.{Text, place_of, names_in}
use Rattle.steptree.specs.Resolved.{IsExpression, AreExpressions, IsSimple, IsBlock, IsKey as IsKeyOf}
use Rattle.steptree.specs.Nameable.{Collection, Nameable}

abbrev pub SameName : Name → Name → Type 0
SameName one two = one.text.now ≡ two.text.now

pub same_name : (it : Named) (one two : Name) → IsName it one → IsName it two → SameName one two
same_name it one two first second = first.0 ∙ sym second.0

-- ---- expressions

abbrev pub Alike : NamedExpression → NamedExpression → Type 0
Alike (Number m) (Number n) = m ≡ n
Alike (Variable one) (Variable two) = SameName one two
Alike (Negation e) (Negation f) = Alike e f
Alike (Operation how e1 e2) (Operation also f1 f2) = (how ≡ also) × Alike e1 f1 × Alike e2 f2
Alike e f = ⊥

mutual
  pub expr_alike : (expr : Expr) (one two : NamedExpression) → IsExpr expr one → IsExpr expr two → Alike one two
  expr_alike (sum_alone sum) one two a b = sum_alike sum one two a b
  expr_alike (compared left how right) (Operation _ e1 e2) (Operation _ f1 f2) a b = (a.0 ∙ sym b.0, sum_alike left e1 f1 a.1 b.1, sum_alike right e2 f2 a.2 b.2)
  expr_alike _ _ _ a b = absurd (assumption)

  sum_alike : (sum : Sum) (one two : NamedExpression) → IsSum sum one → IsSum sum two → Alike one two
  sum_alike (prod_alone prod) one two a b = prod_alike prod one two a b
  sum_alike (added left how right) (Operation _ e1 e2) (Operation _ f1 f2) a b = (a.0 ∙ sym b.0, sum_alike left e1 f1 a.1 b.1, prod_alike right e2 f2 a.2 b.2)
  sum_alike _ _ _ a b = absurd (assumption)

  prod_alike : (prod : Prod) (one two : NamedExpression) → IsProd prod one → IsProd prod two → Alike one two
  prod_alike (unary_alone unary) one two a b = unary_alike unary one two a b
  prod_alike (multiplied left how right) (Operation _ e1 e2) (Operation _ f1 f2) a b = (a.0 ∙ sym b.0, prod_alike left e1 f1 a.1 b.1, unary_alike right e2 f2 a.2 b.2)
  prod_alike _ _ _ a b = absurd (assumption)

  unary_alike : (unary : Unary) (one two : NamedExpression) → IsUnary unary one → IsUnary unary two → Alike one two
  unary_alike (negated position unary) (Negation e) (Negation f) a b = unary_alike unary e f a b
  unary_alike (literal position value) (Number m) (Number n) a b = a ∙ sym b
  unary_alike (variable it) (Variable one) (Variable two) a b = same_name it one two a b
  unary_alike (bracketed position expr) one two a b = expr_alike expr one two a b
  unary_alike _ _ _ a b = absurd (assumption)

sums_alike : (them : List Sum) (ones twos : List NamedExpression) → AreAll IsSum them ones → AreAll IsSum them twos → AreAll Alike ones twos
sums_alike [] [] [] a b = tt
sums_alike (sum ∷ them) (one ∷ ones) (two ∷ twos) a b = (sum_alike sum one two a.0 b.0, sums_alike them ones twos a.1 b.1)
sums_alike _ _ _ a b = absurd (assumption)

components_alike : (them : Sums) (ones twos : List NamedExpression) → AreSums them ones → AreSums them twos → AreAll Alike ones twos
components_alike no_sums ones twos a b = rw (a, b) tt
components_alike (sums first more) ones twos a b = sums_alike (first ∷ more) ones twos a b

abbrev pub AlikeKey : Name → List NamedExpression → Name → List NamedExpression → Type 0
AlikeKey one ones two twos = SameName one two × AreAll Alike ones twos

pub key_alike : (key : Key) (one : Name) (ones : List NamedExpression) (two : Name) (twos : List NamedExpression) → IsKey key one ones → IsKey key two twos → AlikeKey one ones two twos
key_alike key one ones two twos a b = (same_name key.collection one two a.0 b.0, components_alike key.components ones twos a.1 b.1)

-- ---- statements without blocks

abbrev pub AlikeUse : NamedUse → NamedUse → Type 0
AlikeUse (Target one) (Target two) = SameName one two
AlikeUse (Value e) (Value f) = Alike e f
AlikeUse (ItemRead one key) (ItemRead two other) = AlikeKey one key.items two other.items
AlikeUse (ItemPut one key) (ItemPut two other) = AlikeKey one key.items two other.items
AlikeUse (TagPut one key) (TagPut two other) = AlikeKey one key.items two other.items
AlikeUse one two = ⊥

abbrev pub AlikeSimple : NamedSimple → NamedSimple → Type 0
AlikeSimple one two = (form_of one ≡ form_of two) × AreAll AlikeUse (uses_of one) (uses_of two)

assigned_alike : (it : Named) (expr : Expr) (one two : NamedSimple) → IsAssigned it expr one → IsAssigned it expr two → AlikeSimple one two
assigned_alike it expr one two a b = grind (arith, same_name, expr_alike)

-- ---- blocks

abbrev pub AlikeBlock : NamedBlock → NamedBlock → Type 0
AlikeBlock End End = ⊤
AlikeBlock (Do one rest) (Do two more) = AlikeSimple one two × AlikeBlock rest more
AlikeBlock (If e a b rest) (If f c d more) = Alike e f × AlikeBlock a c × AlikeBlock b d × AlikeBlock rest more
AlikeBlock (For a e1 e2 inner rest) (For b f1 f2 other more) = SameName a b × Alike e1 f1 × Alike e2 f2 × AlikeBlock inner other × AlikeBlock rest more
AlikeBlock block other = ⊥

-- what is known of the rests of two blocks carries over to the blocks
module _ {B : Type 0} (IsOwn : B → NamedSimple → Type 0) (own_alike : (it : B) (one two : NamedSimple) → IsOwn it one → IsOwn it two → AlikeSimple one two) where
  mutual
    statement_alike : (statement : Statement B) (them : Statements B) (one two : NamedBlock) → ((rest more : NamedBlock) → AreStatements IsOwn them rest → AreStatements IsOwn them more → AlikeBlock rest more)
        → IsStatement IsOwn statement one (AreStatements IsOwn them) → IsStatement IsOwn statement two (AreStatements IsOwn them) → AlikeBlock one two
    statement_alike (own it) them (Do one rest) (Do two more) rests a b = (own_alike it one two a.0 b.0, rests rest more a.1 b.1)
    statement_alike (assigned it expr) them (Do one rest) (Do two more) rests a b = (assigned_alike it expr one two a.0 b.0, rests rest more a.1 b.1)
    statement_alike (if_alone condition _ first) them (If e one two rest) (If f third fourth more) rests a b =
        (expr_alike condition e f a.0 b.0, statements_alike first one third a.1 b.1, rw (a.2, b.2) tt, rests rest more a.3 b.3)
    statement_alike (if_else condition _ first _ second) them (If e one two rest) (If f third fourth more) rests a b =
        (expr_alike condition e f a.0 b.0, statements_alike first one third a.1 b.1, statements_alike second two fourth a.2 b.2, rests rest more a.3 b.3)
    statement_alike (for it from to _ inner) them (For n e1 e2 one rest) (For m f1 f2 two more) rests a b =
        (same_name it n m a.0 b.0, expr_alike from e1 f1 a.1 b.1, expr_alike to e2 f2 a.2 b.2, statements_alike inner one two a.3 b.3, rests rest more a.4 b.4)
    statement_alike _ _ _ _ _ a b = absurd (assumption)

    pub statements_alike : (them : Statements B) (one two : NamedBlock) → AreStatements IsOwn them one → AreStatements IsOwn them two → AlikeBlock one two
    statements_alike no_more one two a b = rw (a, b) tt
    statements_alike (and_then first more) one two a b =
        statement_alike first more one two (λ rest other c d. statements_alike more rest other c d) a b

-- two lookups of one name give one place
same_place : (places : List Text) (one two : Name) (m n : ℕ) → SameName one two → place_of places one.text.now ≡ Some m → place_of places two.text.now ≡ Some n → m ≡ n
same_place places one two m n same a b = let found : Some m ≡ Some n = sym a ∙ ap (place_of places) same ∙ b in cc

module _ (names : List Text) where
  pub expression_same : (one two : NamedExpression) (e f : Expression) → Alike one two → IsExpression names one e → IsExpression names two f → e ≡ f
  expression_same (Number m) (Number n) (tree.Number i) (tree.Number j) alike a b = λ k. tree.Number ((a ∙ alike ∙ sym b) k)
  expression_same (Variable one) (Variable two) (tree.Variable i) (tree.Variable j) alike a b = λ k. tree.Variable (same_place names one two i j alike a b k)
  expression_same (Negation one) (Negation two) (tree.Negation e) (tree.Negation f) alike a b = λ k. tree.Negation (expression_same one two e f alike a b k)
  expression_same (Operation _ l1 r1) (Operation _ l2 r2) (tree.Operation how e1 e2) (tree.Operation other f1 f2) alike a b =
      λ k. tree.Operation ((a.0 ∙ alike.0 ∙ sym b.0) k) (expression_same l1 l2 e1 f1 alike.1 a.1 b.1 k) (expression_same r1 r2 e2 f2 alike.2 a.2 b.2 k)
  expression_same _ _ _ _ alike a b = absurd (assumption)

  expressions_same : (ones twos : List NamedExpression) (es fs : List Expression) → AreAll Alike ones twos → AreExpressions names ones es → AreExpressions names twos fs → es ≡ fs
  expressions_same [] [] [] [] alike a b = refl
  expressions_same (one ∷ ones) (two ∷ twos) (e ∷ es) (f ∷ fs) alike a b =
      λ k. expression_same one two e f alike.0 a.0 b.0 k ∷ expressions_same ones twos es fs alike.1 a.1 b.1 k
  expressions_same _ _ _ _ alike a b = absurd (assumption)

  key_same : (collections : List Collection) (one : Name) (ones : List NamedExpression) (two : Name) (twos : List NamedExpression) (m n : ℕ) (es fs : List Expression) → AlikeKey one ones two twos
      → IsKeyOf names collections one ones m es → IsKeyOf names collections two twos n fs → (m ≡ n) × es ≡ fs
  key_same collections one ones two twos m n es fs alike a b =
      (same_place (names_in collections) one two m n alike.0 a.0 b.0, expressions_same ones twos es fs alike.1 a.1 b.1)

  module _ (sheet : Nameable) where
    simple_same : (one two : NamedSimple) (b c : NumberedSimple) → AlikeSimple one two → IsSimple names sheet one b → IsSimple names sheet two c → b ≡ c
    simple_same one two b c alike a d = grind (arith, same_place, expression_same, key_same)

    pub block_same : (one two : NamedBlock) (b c : Block) → AlikeBlock one two → IsBlock names sheet one b → IsBlock names sheet two c → b ≡ c
    block_same End End tree.End tree.End alike a d = refl
    block_same (Do s1 one) (Do s2 two) (tree.Do b1 rest) (tree.Do b2 more) alike a d = λ k. tree.Do (simple_same s1 s2 b1 b2 alike.0 a.0 d.0 k) (block_same one two rest more alike.1 a.1 d.1 k)
    block_same (If e1 a1 b1 one) (If e2 a2 b2 two) (tree.If f1 c1 d1 rest) (tree.If f2 c2 d2 more) alike a d =
        λ k. tree.If (expression_same e1 e2 f1 f2 alike.0 a.0 d.0 k) (block_same a1 a2 c1 c2 alike.1 a.1 d.1 k) (block_same b1 b2 d1 d2 alike.2 a.2 d.2 k) (block_same one two rest more alike.3 a.3 d.3 k)
    block_same (For m e1 g1 a1 one) (For n e2 g2 a2 two) (tree.For i f1 h1 c1 rest) (tree.For j f2 h2 c2 more) alike a d =
        λ k. tree.For (same_place names m n i j alike.0 a.0 d.0 k) (expression_same e1 e2 f1 f2 alike.1 a.1 d.1 k) (expression_same g1 g2 h1 h2 alike.2 a.2 d.2 k) (block_same a1 a2 c1 c2 alike.3 a.3 d.3 k)
        (block_same one two rest more alike.4 a.4 d.4 k)
    block_same _ _ _ _ alike a d = absurd (assumption)
