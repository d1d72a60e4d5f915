-- What the tokens of a text hold; what is read as an expression or a block can be written.
use Rattle.std.proofs.Common.{◌≡◌, ◌≢◌, ◌≤◌, ◌+◌, ◌-◌, ℕ, nat_lt, List, [], ◌∷◌, ◌++◌, length, subst, arith, ◌<◌, suc, max, Some, refl, sym, ap, ◌∙◌, if◌then◌else◌}
use Rattle.std.proofs.lemmas.Bool.Decides.{nat_tests}
use Rattle.std.specs.Prelude.{⊤}
use Rattle.std.specs.List.{AllByRecursion, flat_map}
use Rattle.syntax.specs.declared.token.Word.{Word}
use Rattle.syntax.specs.Tokens.{Lexeme, name, number, word, symbol, unknown, GREATEST, IsWordText, word_text, Stands, Spot, AreTokens}
use Rattle.syntax.specs.Grammar.{Position, Named, Expr, sum_alone, compared, Sum, prod_alone, added, Prod, unary_alone, multiplied, Unary, negated, literal, variable, bracketed, Sums, no_sums, sums, Key, Statement, own, assigned, if_alone, if_else, for, Statements, no_more, and_then}
use Rattle.syntax.specs.Spelled.{Piece, plain, at, IsPiece, ArePieces, a_sign, expr_pieces, sum_pieces, prod_pieces, unary_pieces, sums_pieces, statement_pieces, statements_pieces}
use Rattle.std.proofs.lemmas.Option.{slice_get_within}
use Rattle.steptree.specs.Tree.{Expression, NamedExpression, Number, Variable, Negation, Operation, End, Do, If, For}
use Rattle.steptree.specs.Simple.{NumberedSimple, NamedSimple, Block, NamedBlock, NumberedUse, Target, Value, AllUses}
use Rattle.steptree.specs.declared.simple.Simple.TheVariants as simple
use Rattle.steptree.specs.Tree as tree
use Rattle.steptree.specs.declared.step.Name.{Name}
use Rattle.steptree.specs.Names.{Text, slot_of}
use Rattle.steptree.specs.Resolved.{IsExpression, AreExpressions, IsSimple, IsBlock, IsKey as IsKeyOf}
use Rattle.syntax.specs.declared.token.Symbol.TheVariants as sign
use Rattle.syntax.specs.declared.limits.TheConstants.{MOST_DEPTH, MOST_BRACES}
use Rattle.syntax.specs.Limits.{expr_depth, sum_depth, prod_depth, unary_depth, expr_first, sum_first, expr_within, sum_within, depth_limits, expr_limits, sum_limits, sums_limits, key_limits, statement_limits, statements_limits}
use Rattle.syntax.specs.Tree.{AreAll, IsExpr, IsSum, IsProd, IsUnary, AreSums, IsAssigned, IsStatement, AreStatements, IsKey}
use Rattle.graph.specs.Textual.{depth_of, IsSpelled, IsTextExpression, AreComponents, IsTextBlock}
use Rattle.graph.proofs.Faultless.{first_empty, second_empty}
use Rattle.graph.proofs.Marks.{at_place}
use Rattle.steptree.specs.Nameable.{Collection, Nameable}
use Rattle.graph.proofs.SmallTrees.{room}

abbrev pub IsSound : Lexeme → Type 0
IsSound (name text) = IsWordText text × ((kept : Word) → text ≢ word_text kept)
IsSound (number value) = value ≤ GREATEST
IsSound _ = ⊤

abbrev pub IsSoundPiece : Piece → Type 0
IsSoundPiece (plain lexeme) = IsSound lexeme
IsSoundPiece (at position lexeme) = IsSound lexeme

abbrev pub AreSound : List Piece → Type 0
AreSound pieces = AllByRecursion IsSoundPiece pieces

stands_sound : (lexeme : Lexeme) (bytes rest : List ℕ) → Stands lexeme bytes rest → IsSound lexeme
stands_sound (name text) bytes rest stands = (stands.1.0, stands.2)
stands_sound (number value) bytes rest stands = stands.3
stands_sound (word kept) bytes rest stands = tt
stands_sound (symbol sign) bytes rest stands = tt
stands_sound unknown bytes rest stands = tt

-- each piece that the tokens are derived from is sound too
pub pieces_sound : (from : ℕ) (bytes : List ℕ) (spots : List Spot) (pieces : List Piece) → AreTokens from bytes spots → ArePieces pieces spots → AreSound pieces
pieces_sound from bytes [] [] tokens are = tt
pieces_sound from bytes (spot ∷ spots) (piece ∷ pieces) tokens are =
    (one piece are.0, pieces_sound (spot.1 + (length tokens.1 - length tokens.2)) tokens.2 spots pieces tokens.7 are.1)
  where
    sound : IsSound spot.0
    sound = stands_sound spot.0 tokens.1 tokens.2 tokens.6

    one : (it : Piece) → IsPiece it spot → IsSoundPiece it
    one (plain lexeme) is = subst IsSound is sound
    one (at position lexeme) is = subst IsSound is.0 sound
pieces_sound _ _ _ _ _ are = absurd (assumption)

-- ---- parts

-- the pieces in front, and the pieces after them
pub front : (xs ys : List Piece) → AreSound (xs ++ ys) → AreSound xs
front [] ys all = tt
front (x ∷ xs) ys all = (all.0, front xs ys all.1)

pub rear : (xs ys : List Piece) → AreSound (xs ++ ys) → AreSound ys
rear [] ys all = all
rear (x ∷ xs) ys all = rear xs ys all.1

-- a limit that is not exceeded
pub kept_to : (most it : ℕ) (place : Position) → (if nat_lt most it then place ∷ [] else []) ≡ [] → it ≤ most
kept_to most it place none = grind (arith, nat_tests)

module _ (names : List Text) where
  pub slot_within : (called : Name) (slot : ℕ) → slot_of names called ≡ Some slot → slot < length names
  slot_within called slot found = slice_get_within names slot called.text.now (at_place names called.text.now slot found)

  -- its numbers and variables are good, and it is as deep as its derivation
  abbrev IsRead : Expression → ℕ → Type 0
  IsRead e depth = IsSpelled (length names) e × (depth_of e ≡ depth)

  mutual
    expr_read : (expr : Expr) (it : NamedExpression) (e : Expression) → AreSound (expr_pieces expr) → IsExpr expr it → IsExpression names it e → IsRead e (expr_depth expr)
    expr_read (sum_alone sum) it e sound is means = sum_read sum it e sound is means
    expr_read (compared left how right) (Operation _ it other) (tree.Operation _ e f) sound is means =
        let one = sum_read left it e (search (front, rear)) is.1 means.1 in let two = sum_read right other f (search (front, rear)) is.2 means.2 in
        ((one.0, two.0), λ i. suc (max (one.1 i) (two.1 i)))
    expr_read _ _ _ _ is means = absurd (assumption)

    sum_read : (sum : Sum) (it : NamedExpression) (e : Expression) → AreSound (sum_pieces sum) → IsSum sum it → IsExpression names it e → IsRead e (sum_depth sum)
    sum_read (prod_alone prod) it e sound is means = prod_read prod it e sound is means
    sum_read (added left how right) (Operation _ it other) (tree.Operation _ e f) sound is means =
        let one = sum_read left it e (search (front, rear)) is.1 means.1 in let two = prod_read right other f (search (front, rear)) is.2 means.2 in
        ((one.0, two.0), λ i. suc (max (one.1 i) (two.1 i)))
    sum_read _ _ _ _ is means = absurd (assumption)

    prod_read : (prod : Prod) (it : NamedExpression) (e : Expression) → AreSound (prod_pieces prod) → IsProd prod it → IsExpression names it e → IsRead e (prod_depth prod)
    prod_read (unary_alone unary) it e sound is means = unary_read unary it e sound is means
    prod_read (multiplied left how right) (Operation _ it other) (tree.Operation _ e f) sound is means =
        let one = prod_read left it e (search (front, rear)) is.1 means.1 in let two = unary_read right other f (search (front, rear)) is.2 means.2 in
        ((one.0, two.0), λ i. suc (max (one.1 i) (two.1 i)))
    prod_read _ _ _ _ is means = absurd (assumption)

    unary_read : (unary : Unary) (it : NamedExpression) (e : Expression) → AreSound (unary_pieces unary) → IsUnary unary it → IsExpression names it e → IsRead e (unary_depth unary)
    unary_read (negated position unary) (Negation it) (tree.Negation e) sound is means =
        let one = unary_read unary it e sound.1 is means in
        (one.0, ap suc one.1)
    unary_read (literal position value) (Number m) (tree.Number n) sound is means = ((value, means ∙ is, sound.0), refl)
    unary_read (variable it) (Variable called) (tree.Variable slot) sound is means = (slot_within called slot means, refl)
    unary_read (bracketed position expr) it e sound is means = expr_read expr it e (search front) is means
    unary_read _ _ _ _ is means = absurd (assumption)

  -- no deeper than an expression may be
  shallow : (e : Expression) (depth : ℕ) (first : Position) (within : List Position) → IsRead e depth → depth_limits depth first ++ within ≡ [] → IsTextExpression (length names) e
  shallow e depth first within read none = (read.0, subst (λ (n : ℕ). n ≤ MOST_DEPTH) (sym read.1) (kept_to MOST_DEPTH depth first (first_empty (depth_limits depth first) within none)))

  pub expression_read : (expr : Expr) (it : NamedExpression) (e : Expression) → AreSound (expr_pieces expr) → expr_limits expr ≡ [] → IsExpr expr it → IsExpression names it e → IsTextExpression (length names) e
  expression_read expr it e sound none is means = shallow e (expr_depth expr) (expr_first expr) (expr_within 0 expr) (expr_read expr it e sound is means) none

  component_read : (sum : Sum) (it : NamedExpression) (e : Expression) → AreSound (sum_pieces sum) → sum_limits sum ≡ [] → IsSum sum it → IsExpression names it e → IsTextExpression (length names) e
  component_read sum it e sound none is means = shallow e (sum_depth sum) (sum_first sum) (sum_within 0 sum) (sum_read sum it e sound is means) none

  -- ---- components

  abbrev comma : Sum → List Piece
  comma sum = a_sign sign.Comma ++ sum_pieces sum

  more_read : (more : List Sum) (them : List NamedExpression) (es : List Expression) → AreSound (flat_map comma more) → flat_map sum_limits more ≡ [] → AreAll IsSum more them
      → AreExpressions names them es → AreComponents (length names) es
  more_read [] [] [] sound none are means = tt
  more_read (sum ∷ more) (it ∷ them) (e ∷ es) sound none are means =
      (component_read sum it e (search (front, rear)) (search first_empty) are.0 means.0, more_read more them es (search (front, rear)) (search second_empty) are.1 means.1)
  more_read _ _ _ _ _ are means = absurd (assumption)

  none_read : (them : List NamedExpression) (es : List Expression) → them ≡ [] → AreExpressions names them es → AreComponents (length names) es
  none_read [] [] none means = tt
  none_read [] (e ∷ es) none means = absurd means
  none_read (it ∷ them) es none means = absurd (cc)

  pub components_read : (parts : Sums) (them : List NamedExpression) (es : List Expression) → AreSound (sums_pieces parts) → sums_limits parts ≡ [] → AreSums parts them
      → AreExpressions names them es → AreComponents (length names) es
  components_read no_sums them es sound none are means = none_read them es are means
  components_read (sums first more) (it ∷ them) (e ∷ es) sound none are means =
      (component_read first it e (search (front, rear)) (search first_empty) are.0 means.0, more_read more them es (search (front, rear)) (search second_empty) are.1 means.1)
  components_read _ _ _ _ _ are means = absurd (assumption)

-- what follows a statement
abbrev Rests : (NumberedUse → Type 0) → List Text → Nameable → ℕ → (NamedBlock → Type 0) → Type 0
Rests IsUse names sheet around Rest = (it : NamedBlock) (rest : Block) → Rest it → IsBlock names sheet it rest → IsTextBlock IsUse (length names) around rest

module _ (names : List Text) (sheet : Nameable) where
  -- a kind of block in which variables may be set to values, whatever statements of its own it has
  module _ (IsUse : NumberedUse → Type 0) (is_target : (slot : ℕ) → slot < length names → IsUse (Target slot)) (is_value : (value : Expression) → IsTextExpression (length names) value → IsUse (Value value))
      {B : Type 0} (IsOwn : B → NamedSimple → Type 0) (own_pieces : B → List Piece) (own_limits : B → List Position)
      (own_read : (it : B) (statement : NamedSimple) (b : NumberedSimple) → AreSound (own_pieces it) → own_limits it ≡ [] → IsOwn it statement → IsSimple names sheet statement b → AllUses IsUse b) where
    assigned_read : (it : Named) (expr : Expr) (statement : NamedSimple) (b : NumberedSimple) → AreSound (expr_pieces expr) → expr_limits expr ≡ [] → IsAssigned it expr statement → IsSimple names sheet statement b → AllUses IsUse b
    assigned_read it expr (simple.Assign called value) (simple.Assign slot e) sound none is means = (is_target slot (slot_within names called slot means.0), (is_value e (expression_read names expr value e sound none is.1 means.1), tt))
    assigned_read _ _ _ _ _ _ is means = absurd (assumption)

    ends_read : (around : ℕ) (block : NamedBlock) (b : Block) → block ≡ End → IsBlock names sheet block b → IsTextBlock IsUse (length names) around b
    ends_read around End tree.End is means = tt
    ends_read around End _ is means = absurd means
    ends_read around _ b is means = absurd (cc)

    mutual
      statement_read : (around : ℕ) (statement : Statement B) (after : Statements B) (block : NamedBlock) (b : Block) → Rests IsUse names sheet around (AreStatements IsOwn after)
          → AreSound (statement_pieces own_pieces statement)
          → statement_limits own_limits around statement ≡ [] → IsStatement IsOwn statement block (AreStatements IsOwn after) → IsBlock names sheet block b → IsTextBlock IsUse (length names) around b
      statement_read around (own it) after (Do statement rest) (tree.Do b more) rests sound none is means = (own_read it statement b sound none is.0 means.0, rests rest more is.1 means.1)
      statement_read around (assigned it expr) after (Do statement rest) (tree.Do b more) rests sound none is means =
          (assigned_read it expr statement b (search (front, rear)) (search (first_empty, second_empty)) is.0 means.0, rests rest more is.1 means.1)
      statement_read around (if_alone condition brace first) after (If value one two rest) (tree.If e c d more) rests sound none is means = (
        expression_read names condition value e (search (front, rear)) (search (first_empty, second_empty)) is.0 means.0,
        room MOST_BRACES around brace (search (first_empty, second_empty)),
        statements_read (suc around) first one c (search (front, rear)) (search (first_empty, second_empty)) is.1 means.1,
        ends_read (suc around) two d is.2 means.2,
        rests rest more is.3 means.3,
      )
      statement_read around (if_else condition brace first other second) after (If value one two rest) (tree.If e c d more) rests sound none is means = (
        expression_read names condition value e (search (front, rear)) (search (first_empty, second_empty)) is.0 means.0,
        room MOST_BRACES around brace (search (first_empty, second_empty)),
        statements_read (suc around) first one c (search (front, rear)) (search (first_empty, second_empty)) is.1 means.1,
        statements_read (suc around) second two d (search (front, rear)) (search (first_empty, second_empty)) is.2 means.2,
        rests rest more is.3 means.3,
      )
      statement_read around (for it from to brace inner) after (For called low high one rest) (tree.For slot e f c more) rests sound none is means = (
        slot_within names called slot means.0,
        expression_read names from low e (search (front, rear)) (search (first_empty, second_empty)) is.1 means.1,
        expression_read names to high f (search (front, rear)) (search (first_empty, second_empty)) is.2 means.2,
        room MOST_BRACES around brace (search (first_empty, second_empty)),
        statements_read (suc around) inner one c (search (front, rear)) (search (first_empty, second_empty)) is.3 means.3,
        rests rest more is.4 means.4,
      )
      statement_read _ _ _ _ _ _ _ _ is means = absurd (assumption)

      pub statements_read : (around : ℕ) (them : Statements B) (block : NamedBlock) (b : Block) → AreSound (statements_pieces own_pieces them) → statements_limits own_limits around them ≡ []
          → AreStatements IsOwn them block → IsBlock names sheet block b → IsTextBlock IsUse (length names) around b
      statements_read around no_more block b sound none is means = ends_read around block b is means
      statements_read around (and_then first more) block b sound none is means =
          statement_read around first more block b (λ it rest are so. statements_read around more it rest (search (front, rear)) (search (first_empty, second_empty)) are so)
          (search (front, rear)) (search (first_empty, second_empty)) is means

  -- ---- keys

  pub key_read : (collections : List Collection) (key : Key) (it : Name) (parts : List NamedExpression) (index : ℕ) (es : List Expression) → AreSound (sums_pieces key.components)
      → key_limits key ≡ [] → IsKey key it parts → IsKeyOf names collections it parts index es → AreComponents (length names) es
  key_read collections key it parts index es sound none is means = components_read names key.components parts es sound (search second_empty) is.1 means.1
