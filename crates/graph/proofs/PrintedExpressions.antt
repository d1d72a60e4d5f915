-- Printed expressions, lists and keys: their derivations, their trees, and that they exceed no limit.
use Rattle.std.proofs.Common.{◌≡◌, ℕ, ◌+◌, Bool, List, [], ◌∷◌, ◌++◌, length, map, codes, refl, sym, subst, append_assoc, suc, ℤ, pos, ◌≤◌, get_or, ap, ◌∙◌, arith}
use Rattle.std.proofs.lemmas.List.Folds.{flat_map-map}
use Rattle.std.specs.List.{AllByRecursion, flat_map}
use Rattle.syntax.specs.declared.token.Symbol.TheVariants as sign
use Rattle.syntax.specs.Tokens.{BeginsWithout}
use Rattle.syntax.specs.Spelled.{Piece, a_sign, at, sign_at, expr_pieces, unary_pieces, named, sum_pieces, sums_pieces}
use Rattle.syntax.specs.Tree.{AreAll, IsExpr, IsUnary, IsSum, IsKey}
use Rattle.steptree.specs.Names.{Text}
use Rattle.graph.specs.Canonical.{joined, operator_text, expression_text, with_colon}
use Rattle.graph.proofs.PrintedTokens.{after_word, never, anything, Printed, behind, and, and_blanks, narrowed, nothing, closed_sign, after_sign, and_space, sign_and_space, open_sign, double_sign}
use Rattle.graph.proofs.PrintedTokens.{Fronts, printed_name, name_fronts, no_name_limit, no_more_limit, printed_number, number_fronts, found_at, within_limit, inside_rounds, in_order}
use Rattle.std.specs.Prelude.{max}
use Rattle.steptree.specs.declared.expression.Operator.{Operator}
use Rattle.steptree.specs.declared.expression.Operator.TheVariants as operator
use Rattle.steptree.specs.Tree.{Expression, Number, Variable, Negation, Operation, NamedExpression}
use Rattle.steptree.specs.Resolved.{IsExpression, AreExpressions}
use Rattle.syntax.specs.declared.limits.TheConstants.{MOST_BRACKETS, MOST_DEPTH}
use Rattle.syntax.specs.declared.token.Symbol.{Symbol}
use Rattle.syntax.specs.Grammar.{equal, not_equal, less, less_or_equal, greater, greater_or_equal, plus, minus, times, over, modulo, Expr, sum_alone, compared, prod_alone, added, unary_alone}
use Rattle.syntax.specs.Grammar.{multiplied, Unary, negated, literal, variable, bracketed, Position, Sum, no_sums, sums, Key}
use Rattle.syntax.specs.Limits.{expr_depth, unary_depth, expr_within, unary_within, unary_first, sum_limits, sums_limits, key_limits}
use Rattle.graph.specs.Graph.{Graph}
use Rattle.graph.specs.Textual.{depth_of, IsSpelled, AreNames, IsGraphName, IsTextExpression, AreComponents}
use Rattle.graph.proofs.PrintedValues.{name_of, vec_of}
use Rattle.graph.proofs.Lists.{each_at, no_both}
use Rattle.terms.specs.declared.key.TheConstants.{MAX_COMPONENTS}
use Rattle.std.specs.Global.{Vec}
use Rattle.steptree.specs.declared.step.Name.{Name}

-- one element at a place, with what is known of it and of its derivation
pub record OnePrinted {X D : Type 0} (stop : ℕ → Bool) (text_of : X → Text) (pieces_of : D → List Piece) (Rel : X → D → Type 0) (place : ℕ) (x : X) : Type 0 where
  pub derived : D
  pub printed : Printed stop place (text_of x) (pieces_of derived)
  pub related : Rel x derived

-- all of them from a place on
abbrev pub AllPrinted : {X D : Type 0} → (ℕ → Bool) → (X → Text) → (D → List Piece) → (X → D → Type 0) → ℕ → List X → Type 0
AllPrinted stop text_of pieces_of Rel place xs = OnePrinted stop (flat_map text_of) (flat_map pieces_of) (AreAll Rel) place xs

module _ {X D : Type 0} (stop : ℕ → Bool) (text_of : X → Text) (pieces_of : D → List Piece) (Rel : X → D → Type 0) (Good : X → Type 0)
    (fronts : (x : X) (rest : List ℕ) → Good x → BeginsWithout stop (text_of x ++ rest)) where
  pub all_front : (xs : List X) (rest : List ℕ) → AllByRecursion Good xs → BeginsWithout stop rest → BeginsWithout stop (flat_map text_of xs ++ rest)
  all_front [] rest good may = may
  all_front (x ∷ xs) rest good may = subst (BeginsWithout stop) (sym (append_assoc (text_of x) (flat_map text_of xs) rest)) (fronts x (flat_map text_of xs ++ rest) good.0)

  pub all_printed : ((x : X) (place : ℕ) → Good x → OnePrinted stop text_of pieces_of Rel place x) → (xs : List X) (place : ℕ) → AllByRecursion Good xs → AllPrinted stop text_of pieces_of Rel place xs
  all_printed each [] place good = record { derived = []; printed = narrowed (λ rest may. anything rest) (nothing place); related = tt }
  all_printed each (x ∷ xs) place good =
      let one = each x place good.0 in
      let rest = all_printed each xs (place + length (text_of x)) good.1 in record {
        derived = one.derived ∷ rest.derived;
        printed = behind one.printed rest.printed (λ later may. all_front xs later good.1 may);
        related = (one.related, rest.related);
      }

-- ---- what is known of each of two lists

-- no limit is exceeded if no element exceeds one
pub no_all : {X D Y : Type 0} (Rel : X → D → Type 0) (limits : D → List Y) → ((x : X) (d : D) → Rel x d → limits d ≡ []) → (xs : List X) (ds : List D) → AreAll Rel xs ds → flat_map limits ds ≡ []
no_all Rel limits none [] [] all = refl
no_all Rel limits none (x ∷ xs) (d ∷ ds) all = λ i. none x d all.0 i ++ no_all Rel limits none xs ds all.1 i
no_all _ _ _ _ _ all = absurd (assumption)

-- ---- commas

pub comma : (place : ℕ) → Printed never place (codes ", ") (a_sign sign.Comma)
comma place = and_blanks (closed_sign place 44 sign.Comma _ refl refl refl) (codes " ") (refl, tt) (λ rest may. refl)

module _ {X D : Type 0} (text_of : X → Text) (pieces_of : D → List Piece) (Rel : X → D → Type 0) (Good : X → Type 0) where
  abbrev pub comma_text : X → Text
  comma_text x = codes ", " ++ text_of x

  abbrev pub comma_pieces : D → List Piece
  comma_pieces d = a_sign sign.Comma ++ pieces_of d

  -- the elements after the first
  pub commas_printed : ((x : X) (place : ℕ) → Good x → OnePrinted after_word text_of pieces_of Rel place x) → (xs : List X) (place : ℕ) → AllByRecursion Good xs
      → AllPrinted after_word comma_text comma_pieces Rel place xs
  commas_printed each xs place good =
      all_printed after_word comma_text comma_pieces Rel Good (λ x rest is. refl)
      (λ x start is. let one = each x (start + 2) is in record { derived = one.derived; printed = and (comma start) one.printed; related = one.related }) xs place good

  pub commas_front : (xs : List X) (rest : List ℕ) → BeginsWithout after_word rest → BeginsWithout after_word (flat_map comma_text xs ++ rest)
  commas_front [] rest may = may
  commas_front (x ∷ xs) rest may = refl

  -- a list with at least one element
  pub record JoinedPrinted (place : ℕ) (x : X) (xs : List X) : Type 0 where
    pub first : D
    pub more : List D
    pub printed : Printed after_word place (joined (map text_of (x ∷ xs))) (pieces_of first ++ flat_map comma_pieces more)
    pub related : AreAll Rel (x ∷ xs) (first ∷ more)

  pub joined_printed : ((x : X) (place : ℕ) → Good x → OnePrinted after_word text_of pieces_of Rel place x) → (x : X) (xs : List X) (place : ℕ) → AllByRecursion Good (x ∷ xs) → JoinedPrinted place x xs
  joined_printed each x xs place good =
      let one = each x place good.0 in
      let rest = commas_printed each xs (place + length (text_of x)) good.1 in
      let all = behind one.printed rest.printed (λ later may. commas_front xs later may) in record {
        first = one.derived;
        more = rest.derived;
        printed = subst (λ (t : Text). Printed after_word place (text_of x ++ t) (pieces_of one.derived ++ flat_map comma_pieces rest.derived)) (sym (flat_map-map (λ (t : Text). codes ", " ++ t) text_of xs)) all;
        related = (one.related, rest.related);
      }

-- ---- operators

operator_sign : Operator → Symbol
operator_sign operator.Add = sign.Plus
operator_sign operator.Subtract = sign.Minus
operator_sign operator.Multiply = sign.Star
operator_sign operator.Divide = sign.Slash
operator_sign operator.Remainder = sign.Percent
operator_sign operator.Equal = sign.Equal
operator_sign operator.NotEqual = sign.NotEqual
operator_sign operator.Less = sign.Less
operator_sign operator.LessOrEqual = sign.LessOrEqual
operator_sign operator.Greater = sign.Greater
operator_sign operator.GreaterOrEqual = sign.GreaterOrEqual

-- two operands with this operator between them
between : Operator → Unary → Unary → Expr
between operator.Add left right = sum_alone (added (prod_alone (unary_alone left)) plus (unary_alone right))
between operator.Subtract left right = sum_alone (added (prod_alone (unary_alone left)) minus (unary_alone right))
between operator.Multiply left right = sum_alone (prod_alone (multiplied (unary_alone left) times right))
between operator.Divide left right = sum_alone (prod_alone (multiplied (unary_alone left) over right))
between operator.Remainder left right = sum_alone (prod_alone (multiplied (unary_alone left) modulo right))
between operator.Equal left right = compared (prod_alone (unary_alone left)) equal (prod_alone (unary_alone right))
between operator.NotEqual left right = compared (prod_alone (unary_alone left)) not_equal (prod_alone (unary_alone right))
between operator.Less left right = compared (prod_alone (unary_alone left)) less (prod_alone (unary_alone right))
between operator.LessOrEqual left right = compared (prod_alone (unary_alone left)) less_or_equal (prod_alone (unary_alone right))
between operator.Greater left right = compared (prod_alone (unary_alone left)) greater (prod_alone (unary_alone right))
between operator.GreaterOrEqual left right = compared (prod_alone (unary_alone left)) greater_or_equal (prod_alone (unary_alone right))

-- its tokens, its depth, its limits and its tree
between_is : (op : Operator) (left right : Unary) → (expr_pieces (between op left right) ≡ unary_pieces left ++ a_sign (operator_sign op) ++ unary_pieces right)
    × (expr_depth (between op left right) ≡ suc (max (unary_depth left) (unary_depth right)))
    × ((around : ℕ) → expr_within around (between op left right) ≡ unary_within around left ++ unary_within around right)
    × ((one two : NamedExpression) → IsUnary left one → IsUnary right two → IsExpr (between op left right) (Operation op one two))
unfolding between operator_sign
between_is operator.Add left right = (refl, refl, λ around. refl, λ one two x y. (refl, x, y))
between_is _ left right = (refl, refl, λ around. refl, λ one two x y. (refl, x, y))

closed : {place : ℕ} {text : List ℕ} {pieces : List Piece} → Printed never place text pieces → Printed after_sign place text pieces
closed it = narrowed (λ rest may. anything rest) it

printed_operator : (place : ℕ) (op : Operator) → Printed after_sign place (operator_text op) (a_sign (operator_sign op))
unfolding operator_sign
printed_operator place operator.Add = closed (closed_sign place 43 sign.Plus _ refl refl refl)
printed_operator place operator.Subtract = open_sign place 45 sign.Minus _ refl refl (λ e. omega (arith, e))
printed_operator place operator.Multiply = closed (closed_sign place 42 sign.Star _ refl refl refl)
printed_operator place operator.Divide = closed (closed_sign place 47 sign.Slash _ refl refl refl)
printed_operator place operator.Remainder = closed (closed_sign place 37 sign.Percent _ refl refl refl)
printed_operator place operator.Equal = closed (double_sign place 61 61 sign.Equal _ refl refl)
printed_operator place operator.NotEqual = closed (double_sign place 33 61 sign.NotEqual _ refl refl)
printed_operator place operator.Less = open_sign place 60 sign.Less _ refl refl (λ e. omega (arith, e))
printed_operator place operator.LessOrEqual = closed (double_sign place 60 61 sign.LessOrEqual _ refl refl)
printed_operator place operator.Greater = open_sign place 62 sign.Greater _ refl refl (λ e. omega (arith, e))
printed_operator place operator.GreaterOrEqual = closed (double_sign place 62 61 sign.GreaterOrEqual _ refl refl)

-- ---- expressions

-- what is known of a printed expression, inside its own brackets
pub record IsPrinted (g : Graph) (names : List Text) (place : ℕ) (expression : Expression) : Type 0 where
  pub unary : Unary
  pub printed : Printed after_word place (expression_text g names expression) (unary_pieces unary)
  pub fronts : Fronts (expression_text g names expression)
  pub depth : unary_depth unary ≡ depth_of expression
  pub within : (around : ℕ) → around + depth_of expression ≤ suc MOST_BRACKETS → unary_within around unary ≡ []
  pub value : NamedExpression
  pub is : IsUnary unary value
  pub resolves : IsExpression names value expression

some_depth : (expression : Expression) → 1 ≤ depth_of expression
some_depth (Number value) = omega arith
some_depth _ = omega arith

module _ (g : Graph) (names : List Text) (are : AreNames names) where
  -- up to the second operand
  abbrev up_to : Operator → Expression → List ℕ
  up_to op left = expression_text g names left ++ codes " " ++ operator_text op ++ codes " "

  -- an expression that a text can have can be printed
  pub expression_printed : (expression : Expression) (place : ℕ) → IsSpelled (length names) expression → IsPrinted g names place expression
  expression_printed (Number value) place is = subst (λ (z : ℤ). IsPrinted g names place (Number z)) (sym is.1) (record {
    unary = literal place is.0;
    printed = printed_number place is.0 is.2;
    fronts = number_fronts is.0 is.2;
    depth = refl;
    within = λ around h. refl;
    value = Number (pos is.0);
    is = refl;
    resolves = refl;
  })
  expression_printed (Variable slot) place is =
      let good = each_at IsGraphName names slot [] is are.each in record {
        unary = variable (get_or names slot [], place);
        printed = printed_name place (get_or names slot []) good;
        fronts = name_fronts (get_or names slot []) good;
        depth = refl;
        within = λ around h. no_name_limit (get_or names slot []) place good;
        value = Variable (name_of (get_or names slot [], place));
        is = (refl, refl);
        resolves = found_at names slot are.distinct is;
      }
  expression_printed (Negation operand) place is =
      let it = expression_printed operand (place + 1 + 1) is in record {
        unary = bracketed place (sum_alone (prod_alone (unary_alone (negated (place + 1) it.unary))));
        printed = narrowed (λ rest may. anything rest)
            (inside_rounds (at _ _) (refl, refl) (behind (open_sign (place + 1) 45 sign.Minus (at (place + 1) _) (refl, refl) refl (λ e. omega (arith, e))) it.printed (λ rest may. it.fronts rest)));
        fronts = λ rest. refl;
        depth = ap suc it.depth;
        within = λ around h. no_both _ _ (no_more_limit MOST_BRACKETS around place (omega (arith, some_depth operand))) (it.within (suc around) (omega arith));
        value = Negation it.value;
        is = it.is;
        resolves = it.resolves;
      }
  expression_printed (Operation op left right) place is =
      let one = expression_printed left (place + 1) is.0 in
      let two = expression_printed right (place + 1 + length (up_to op left)) is.1 in
      let all = and (sign_and_space (and (and_space one.printed) (printed_operator (place + 1 + length (expression_text g names left ++ codes " ")) op))) two.printed in record {
        unary = bracketed place (between op one.unary two.unary);
        printed = narrowed (λ rest may. anything rest) (in_order (ap (λ (p : List Piece). sign_at place sign.OpenRound ++ p ++ a_sign sign.CloseRound) (sym (between_is op one.unary two.unary).0))
            (inside_rounds (at _ _) (refl, refl) all));
        fronts = λ rest. refl;
        depth = (between_is op one.unary two.unary).1 ∙ (λ i. suc (max (one.depth i) (two.depth i)));
        within = λ around h.
            let inner = no_both _ _ (one.within (suc around) (omega arith)) (two.within (suc around) (omega arith)) in
            no_both _ _ (no_more_limit MOST_BRACKETS around place (omega (arith, some_depth left))) ((between_is op one.unary two.unary).2 (suc around) ∙ inner);
        value = Operation op one.value two.value;
        is = (between_is op one.unary two.unary).3 one.value two.value one.is two.is;
        resolves = (refl, one.resolves, two.resolves);
      }

-- ---- components

-- what is known of a component
pub record IsComponent (names : List Text) (expression : Expression) (sum : Sum) : Type 0 where
  pub limits : sum_limits sum ≡ []
  pub value : NamedExpression
  pub is : IsSum sum value
  pub resolves : IsExpression names value expression

-- a printed expression as a whole exceeds no limit
pub no_limits : {g : Graph} {names : List Text} {place : ℕ} {expression : Expression} (it : IsPrinted g names place expression) → depth_of expression ≤ MOST_DEPTH
    → sum_limits (prod_alone (unary_alone it.unary)) ≡ []
no_limits it small =
    no_both _ _ (within_limit MOST_DEPTH (unary_depth it.unary) (unary_first it.unary) (omega (arith, it.depth))) (it.within 0 (omega arith))

module _ (g : Graph) (names : List Text) (are : AreNames names) where
  component_printed : (expression : Expression) (place : ℕ) → IsTextExpression (length names) expression → OnePrinted after_word (expression_text g names) sum_pieces (IsComponent names) place expression
  component_printed expression place is =
      let it = expression_printed g names are expression place is.0 in record {
        derived = prod_alone (unary_alone it.unary);
        printed = it.printed;
        related = record { limits = no_limits it is.1; value = it.value; is = it.is; resolves = it.resolves };
      }

-- the trees of components
pub record HasValues (names : List Text) (expressions : List Expression) (components : List Sum) : Type 0 where
  pub values : List NamedExpression
  pub are : AreAll IsSum components values
  pub resolve : AreExpressions names values expressions
  pub many : length values ≡ length expressions

values_of : (names : List Text) (expressions : List Expression) (components : List Sum) → AreAll (IsComponent names) expressions components → HasValues names expressions components
values_of names [] [] all = record { values = []; are = tt; resolve = tt; many = refl }
values_of names (expression ∷ expressions) (component ∷ components) all =
    let one = all.0 in
    let rest = values_of names expressions components all.1 in
    record { values = one.value ∷ rest.values; are = (one.is, rest.are); resolve = (one.resolves, rest.resolve); many = omega (arith, rest.many) }
values_of _ _ _ all = absurd (assumption)

-- ---- keys

-- what is known of the inside of a printed key
pub record KeyPrinted (g : Graph) (names : List Text) (place : ℕ) (collection : Text) (components : List Expression) : Type 0 where
  pub key : Key
  pub printed : Printed after_word place (with_colon collection (map (expression_text g names) components)) (named key.collection ∷ sums_pieces key.components)
  pub limits : key_limits key ≡ []
  pub name : Name
  pub parts : Vec NamedExpression
  pub is : IsKey key name parts.items
  pub is_of : name.text.now ≡ collection
  pub resolve : AreExpressions names parts.items components

pub colon : (place : ℕ) → Printed never place (codes ": ") (a_sign sign.Colon)
colon place = sign_and_space (open_sign place 58 sign.Colon _ refl refl (λ e. omega (arith, e)))

module _ (g : Graph) (names : List Text) (are : AreNames names) (collection : Text) (is_name : IsGraphName collection) where
  pub key_printed : (components : List Expression) (place : ℕ) → length components ≤ MAX_COMPONENTS → AreComponents (length names) components → KeyPrinted g names place collection components
  key_printed [] place few all = record {
    key = record { collection = (collection, place); components = no_sums };
    printed = printed_name place collection is_name;
    limits = ap (λ (l : List Position). l ++ []) (no_name_limit collection place is_name);
    name = name_of (collection, place);
    parts = vec_of [] (omega arith);
    is = ((refl, refl), refl);
    is_of = refl;
    resolve = tt;
  }
  key_printed (first ∷ more) place few all =
      let start : ℕ = place + length (collection ++ codes ": ") in
      let it = joined_printed (expression_text g names) sum_pieces (IsComponent names) (IsTextExpression (length names)) (component_printed g names are) first more start all in
      let trees = values_of names (first ∷ more) (it.first ∷ it.more) it.related in record {
        key = record { collection = (collection, place); components = sums it.first it.more };
        printed = and (behind (printed_name place collection is_name) (colon (place + length collection)) (λ rest may. refl)) it.printed;
        limits = ap (λ (l : List Position). l ++ sums_limits (sums it.first it.more)) (no_name_limit collection place is_name)
            ∙ no_all (IsComponent names) sum_limits (λ x d r. r.limits) (first ∷ more) (it.first ∷ it.more) it.related;
        name = name_of (collection, place);
        parts = vec_of trees.values (omega (arith, trees.many));
        is = ((refl, refl), trees.are);
        is_of = refl;
        resolve = trees.resolve;
      }

-- a key begins with its name
pub key_fronts : (collection : Text) (components : List Text) → IsGraphName collection → Fronts (with_colon collection components)
key_fronts collection [] is rest = name_fronts collection is rest
key_fronts collection (first ∷ more) is rest =
    subst (BeginsWithout after_sign) (sym (append_assoc (collection ++ codes ": ") (joined (first ∷ more)) rest ∙ append_assoc collection (codes ": ") (joined (first ∷ more) ++ rest)))
    (name_fronts collection is (codes ": " ++ (joined (first ∷ more) ++ rest)))
