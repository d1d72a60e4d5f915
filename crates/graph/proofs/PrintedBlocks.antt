-- The read block and the write block of a step, as they are printed.
use Rattle.std.proofs.Common.{◌≡◌, ℕ, ◌<◌, ◌≤◌, Bool, List, [], length, get_or, Some, ap, arith, suc, ◌+◌, ◌++◌, codes, refl, append_assoc, ◌∷◌}
use Rattle.std.proofs.lemmas.List.{length-map}
use Rattle.std.proofs.lemmas.Option.{slice_get_within, get_or_from_slice_get}
use Rattle.terms.specs.declared.key.TheConstants.{MAX_COMPONENTS}
use Rattle.steptree.specs.Names.{place_of, names_in, Text}
use Rattle.steptree.specs.Sheet.{IsAllowed, AllowsAll, KeepsTo}
use Rattle.steptree.specs.Nameable.{Collection, Nameable}
use Rattle.steptree.specs.Limits.{AreFew}
use Rattle.graph.specs.Textual.{IsGraphName, AreNames, IsTextExpression, IsTextBlock}
use Rattle.graph.proofs.PrintedTokens.{found_at, never, Printed, behind, and, nothing, printed_name, no_name_limit, no_more_limit, inside, lined, word_first, semicolon, close_brace, open_brace, equals, dots, among, otherwise, in_order, inside_rounds}
use Rattle.graph.proofs.Lists.{each_at, no_both}
use Rattle.steptree.specs.Tree.{Expression, End, Do, If, For}
use Rattle.steptree.specs.Simple.{NumberedSimple, NamedSimple, Block, NamedBlock, NumberedUse, AllUses}
use Rattle.steptree.specs.declared.simple.Simple.TheVariants.{Assign}
use Rattle.steptree.specs.Resolved.{IsSimple, IsBlock}
use Rattle.syntax.specs.declared.limits.TheConstants.{MOST_BRACES}
use Rattle.syntax.specs.declared.token.Word.TheVariants as kept
use Rattle.syntax.specs.declared.token.Symbol.TheVariants as sign
use Rattle.syntax.specs.Tokens.{name}
use Rattle.syntax.specs.Grammar.{Position, sum_alone, prod_alone, unary_alone, Expr, assigned, if_else, for, Statement, Statements, no_more, and_then, own}
use Rattle.syntax.specs.Spelled.{Piece, statement_pieces, statements_pieces, condition_pieces, at, expr_pieces, a_sign, a_word, plain}
use Rattle.syntax.specs.Limits.{statement_limits, statements_limits}
use Rattle.syntax.specs.Tree.{IsAssigned, IsStatement, AreStatements}
use Rattle.graph.specs.Graph.{Graph}
use Rattle.graph.specs.Canonical.{in_rounds, expression_text, block_text, line, condition_line, range_line, simple_line}
use Rattle.graph.proofs.PrintedExpressions.{expression_printed, no_limits}
use Rattle.graph.proofs.PrintedValues.{name_of}

-- what is known of a collection that a step may name: it has few components, and its name finds it
pub record Known (collections : List Collection) (index components : ℕ) : Type 0 where
  pub few : components ≤ MAX_COMPONENTS
  pub name : IsGraphName (get_or (names_in collections) index [])
  pub found : place_of (names_in collections) (get_or (names_in collections) index []) ≡ Some index

pub many_names : (collections : List Collection) → length (names_in collections) ≡ length collections
many_names collections = length-map collections (λ (it : Collection). it.name)

pub known : (collections : List Collection) → AreFew collections → AreNames (names_in collections) → (allowed : List Bool) (index components : ℕ)
    → IsAllowed collections allowed index components → Known collections index components
known collections are names allowed index components is =
    let collection : Collection = is.declared.0 in
    let within : index < length collections = slice_get_within collections index collection is.declared.1 in
    let inside : index < length (names_in collections) = omega (arith, many_names collections) in
    let few : (get_or collections index collection).components ≤ MAX_COMPONENTS = are.short index collection (omega arith) in
    let there : (get_or collections index collection).components ≡ collection.components = ap (λ (it : Collection). it.components) (get_or_from_slice_get collections index collection collection is.declared.1) in record {
      few = omega (arith, is.declared.2);
      name = each_at IsGraphName (names_in collections) index [] inside names.each;
      found = found_at (names_in collections) index names.distinct inside;
    }

-- what is inside braces, with the braces belonging to the lines around it
one_inside : (front inner rest : List Piece) (begin end : Piece) → front ++ (begin ∷ []) ++ inner ++ (end ∷ []) ++ rest ≡ front ++ (begin ∷ (inner ++ (end ∷ []))) ++ rest
one_inside front inner rest begin end = simp append_assoc

two_inside : (front first second rest : List Piece) (begin end other_word other_open other_close : Piece)
    → front ++ (begin ∷ []) ++ first ++ (end ∷ other_word ∷ other_open ∷ []) ++ second ++ (other_close ∷ []) ++ rest
    ≡ front ++ (begin ∷ (first ++ (end ∷ []))) ++ (other_word ∷ []) ++ (other_open ∷ (second ++ (other_close ∷ []))) ++ rest
two_inside front first second rest begin end other_word other_open other_close = simp append_assoc

module _ {B : Type 0} (own_pieces : B → List Piece) (own_limits : B → List Position) (IsOwn : B → NamedSimple → Type 0) (g : Graph) (names : List Text) (sheet : Nameable) where
  -- what is known of a printed block inside `around` braces
  pub record BlockPrinted (level around place : ℕ) (block : Block) : Type 0 where
    pub statements : Statements B
    pub printed : Printed never place (block_text g names level block) (statements_pieces own_pieces statements)
    pub limits : statements_limits own_limits around statements ≡ []
    pub value : NamedBlock
    pub is : AreStatements IsOwn statements value
    pub resolves : IsBlock names sheet value block

  pub end_printed : (level around place : ℕ) → BlockPrinted level around place End
  end_printed level around place = record { statements = no_more; printed = nothing place; limits = refl; value = End; is = refl; resolves = tt }

  -- a statement of the grammar without blocks, and the one with names that it is
  abbrev pub IsSimpleOf : Statement B → NamedSimple → Type 0
  IsSimpleOf (own it) statement = IsOwn it statement
  IsSimpleOf (assigned it expr) statement = IsAssigned it expr statement
  IsSimpleOf other statement = ⊥

  with_rest : (one : Statement B) (statement : NamedSimple) (rest : NamedBlock) (IsRest : NamedBlock → Type 0) → IsSimpleOf one statement → IsRest rest → IsStatement IsOwn one (Do statement rest) IsRest
  with_rest one statement rest IsRest is later = grind (arith, later)

  -- what is known of a printed statement without blocks
  pub record SimplePrinted (level around place : ℕ) (statement : NumberedSimple) : Type 0 where
    pub one : Statement B
    pub printed : Printed never place (simple_line g names level statement) (statement_pieces own_pieces one)
    pub limits : statement_limits own_limits around one ≡ []
    pub value : NamedSimple
    pub is : IsSimpleOf one value
    pub resolves : IsSimple names sheet value statement

  simple_printed : (level around place : ℕ) (statement : NumberedSimple) (rest : Block) → SimplePrinted level around place statement
      → BlockPrinted level around (place + length (simple_line g names level statement)) rest → BlockPrinted level around place (Do statement rest)
  simple_printed level around place statement rest it later = record {
    statements = and_then it.one later.statements;
    printed = and it.printed later.printed;
    limits = no_both _ _ it.limits later.limits;
    value = Do it.value later.value;
    is = with_rest it.one it.value later.value (AreStatements IsOwn later.statements) it.is later.is;
    resolves = (it.resolves, later.resolves);
  }

  module _ (are : AreNames names) where
    -- an assignment
    pub assign_printed : (level around place slot : ℕ) (value : Expression) → slot < length names → IsTextExpression (length names) value → SimplePrinted level around place (Assign slot value)
    assign_printed level around place slot value within is =
        let variable : Text = get_or names slot [] in
        let good : IsGraphName variable = each_at IsGraphName names slot [] within are.each in
        let it = expression_printed g names are value (inside level place + length (variable ++ codes " = ")) is.0 in record {
          one = assigned (variable, inside level place) (sum_alone (prod_alone (unary_alone it.unary)));
          printed = lined level place (behind (and (behind (printed_name _ variable good) (equals _) (λ more may. refl)) it.printed) (semicolon _) (λ more may. refl));
          limits = no_both _ _ (no_name_limit variable _ good) (no_limits it is.1);
          value = Assign (name_of (variable, _)) it.value;
          is = ((refl, refl), it.is);
          resolves = (found_at names slot are.distinct within, it.resolves);
        }

    -- a choice
    abbrev if_front : ℕ → Expression → Block → Text
    if_front level condition first = condition_line g names level condition ++ block_text g names (suc level) first

    abbrev if_middle : ℕ → Expression → Block → Block → Text
    if_middle level condition first second = if_front level condition first ++ line level (codes "} else {") ++ block_text g names (suc level) second

    pub if_printed : (level around place : ℕ) (condition : Expression) (first : Block) (second : Block) (rest : Block)
        → IsTextExpression (length names) condition → around < MOST_BRACES
        → BlockPrinted (suc level) (suc around) (place + length (condition_line g names level condition)) first
        → BlockPrinted (suc level) (suc around) (place + length (if_front level condition first ++ line level (codes "} else {"))) second
        → BlockPrinted level around (place + length (if_middle level condition first second ++ line level (codes "}"))) rest
        → BlockPrinted level around place (If condition first second rest)
    if_printed level around place condition first second rest is few one two later =
        let start : ℕ = inside level place in
        let it = expression_printed g names are condition (start + 3 + 1) is.0 in
        let expr : Expr = sum_alone (prod_alone (unary_alone it.unary)) in
        let brace : ℕ = start + length (codes "if " ++ in_rounds (expression_text g names condition)) in
        let other : ℕ = inside level (place + length (if_front level condition first)) + 1 + 1 + 4 + 1 in
        let head = lined level place (and (and (word_first start kept.If) (inside_rounds (plain _) refl it.printed)) (open_brace brace)) in
        let front = and (and head one.printed) (lined level (place + length (if_front level condition first)) (otherwise _)) in record {
          statements = and_then (if_else expr (brace + 1) one.statements other two.statements) later.statements;
          printed = in_order (two_inside (condition_pieces expr) (statements_pieces own_pieces one.statements) (statements_pieces own_pieces two.statements) (statements_pieces own_pieces later.statements) _ _ _ _ _)
              (and (and (and front two.printed) (lined level _ (close_brace _))) later.printed);
          limits = no_both _ _ (no_both _ _ (no_both _ _ (no_both _ _ (no_both _ _ (no_limits it is.1) (no_more_limit MOST_BRACES around (brace + 1) few)) one.limits) (no_more_limit MOST_BRACES around other few)) two.limits) later.limits;
          value = If it.value one.value two.value later.value;
          is = (it.is, one.is, two.is, later.is);
          resolves = (it.resolves, one.resolves, two.resolves, later.resolves);
        }

    -- a loop
    abbrev for_text : ℕ → Expression → Expression → Text
    for_text slot from to = codes "for " ++ get_or names slot [] ++ codes " in " ++ expression_text g names from ++ codes " .. " ++ expression_text g names to

    pub for_printed : (level around place slot : ℕ) (from to : Expression) (block : Block) (rest : Block)
        → slot < length names → IsTextExpression (length names) from → IsTextExpression (length names) to → around < MOST_BRACES
        → BlockPrinted (suc level) (suc around) (place + length (range_line g names level slot from to)) block
        → BlockPrinted level around (place + length (range_line g names level slot from to ++ block_text g names (suc level) block ++ line level (codes "}"))) rest
        → BlockPrinted level around place (For slot from to block rest)
    for_printed level around place slot from to block rest within is is2 few one later =
        let start : ℕ = inside level place in
        let variable : Text = get_or names slot [] in
        let good : IsGraphName variable = each_at IsGraphName names slot [] within are.each in
        let it = expression_printed g names are from (start + length (codes "for " ++ variable ++ codes " in ")) is.0 in
        let it2 = expression_printed g names are to (start + length (codes "for " ++ variable ++ codes " in " ++ expression_text g names from ++ codes " .. ")) is2.0 in
        let brace : ℕ = start + length (for_text slot from to) in
        let low : Expr = sum_alone (prod_alone (unary_alone it.unary)) in
        let high : Expr = sum_alone (prod_alone (unary_alone it2.unary)) in
        let head = behind (and (word_first start kept.For) (printed_name _ variable good)) (among _) (λ more may. refl) in
        let bounds = behind (and (behind (and head it.printed) (dots _) (λ more may. refl)) it2.printed) (open_brace brace) (λ more may. refl) in record {
          statements = and_then (for (variable, start + 4) low high (brace + 1) one.statements) later.statements;
          printed = in_order (one_inside (a_word kept.For ++ (at (start + 4) (name variable) ∷ a_word kept.In) ++ expr_pieces low ++ a_sign sign.DoubleDot ++ expr_pieces high) (statements_pieces own_pieces one.statements)
              (statements_pieces own_pieces later.statements) _ _) (and (and (and (lined level place bounds) one.printed) (lined level _ (close_brace _))) later.printed);
          limits = no_both _ _ (no_both _ _ (no_both _ _ (no_both _ _ (no_both _ _ (no_name_limit variable (start + 4) good) (no_limits it is.1)) (no_limits it2 is2.1)) (no_more_limit MOST_BRACES around (brace + 1) few)) one.limits) later.limits;
          value = For (name_of (variable, start + 4)) it.value it2.value one.value later.value;
          is = ((refl, refl), it.is, it2.is, one.is, later.is);
          resolves = (found_at names slot are.distinct within, it.resolves, it2.resolves, one.resolves, later.resolves);
        }

    -- ---- blocks, if each simple statement can be printed that uses only what it may

    module _ (IsUse : NumberedUse → Type 0)
        (printed_alone : (statement : NumberedSimple) (level around place : ℕ) → AllUses IsUse statement → AllowsAll sheet statement → SimplePrinted level around place statement) where
      pub block_printed : (block : Block) (level around place : ℕ) → IsTextBlock IsUse (length names) around block → KeepsTo sheet block → BlockPrinted level around place block
      block_printed End level around place is keeps = end_printed level around place
      block_printed (Do statement rest) level around place is keeps =
          simple_printed level around place statement rest (printed_alone statement level around place is.0 keeps.0) (block_printed rest level around _ is.1 keeps.1)
      block_printed (If condition first second rest) level around place is keeps =
          if_printed level around place condition first second rest is.0 is.1
          (block_printed first (suc level) (suc around) _ is.2 keeps.0) (block_printed second (suc level) (suc around) _ is.3 keeps.1) (block_printed rest level around _ is.4 keeps.2)
      block_printed (For slot from to block rest) level around place is keeps =
          for_printed level around place slot from to block rest is.0 is.1 is.2 is.3
          (block_printed block (suc level) (suc around) _ is.4 keeps.0) (block_printed rest level around _ is.5 keeps.1)
