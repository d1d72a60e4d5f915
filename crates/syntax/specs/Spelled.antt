-- The tokens that a derivation of the grammar spells.
use Rattle.std.specs.Prelude.{◌≡◌, ⊤, List, [], ◌∷◌, ◌++◌}
use Rattle.std.specs.List.{flat_map}
use Rattle.syntax.specs.declared.token.Word.{Word}
use Rattle.syntax.specs.declared.token.Word.TheVariants as kept
use Rattle.syntax.specs.declared.token.Symbol.{Symbol}
use Rattle.syntax.specs.declared.token.Symbol.TheVariants as sign
use Rattle.syntax.specs.Tokens.{Lexeme, name, number, word, symbol, Spot}
use Rattle.syntax.specs.Grammar.{Position, Named, Comparison, equal, not_equal, less, less_or_equal, greater, greater_or_equal, Addition, plus, minus, Multiplication, times, over, modulo, Expr, sum_alone, compared, Sum, prod_alone, added, Prod, unary_alone, multiplied, Unary, negated, literal, variable, bracketed, Sums, no_sums, sums, Key, Statement, own, assigned, if_alone, if_else, for, Statements, no_more, and_then}

-- a token that a derivation spells: anywhere, or at a position
pub data Piece : Type 0 where
  plain : Lexeme → Piece
  at : Position → Lexeme → Piece

abbrev pub named : Named → Piece
named it = at it.1 (name it.0)

abbrev pub a_sign : Symbol → List Piece
a_sign it = plain (symbol it) ∷ []

abbrev pub sign_at : Position → Symbol → List Piece
sign_at position it = at position (symbol it) ∷ []

abbrev pub a_word : Word → List Piece
a_word it = plain (word it) ∷ []

-- ---- expressions

abbrev pub comparison_sign : Comparison → Symbol
comparison_sign equal = sign.Equal
comparison_sign not_equal = sign.NotEqual
comparison_sign less = sign.Less
comparison_sign less_or_equal = sign.LessOrEqual
comparison_sign greater = sign.Greater
comparison_sign greater_or_equal = sign.GreaterOrEqual

abbrev pub addition_sign : Addition → Symbol
addition_sign plus = sign.Plus
addition_sign minus = sign.Minus

abbrev pub multiplication_sign : Multiplication → Symbol
multiplication_sign times = sign.Star
multiplication_sign over = sign.Slash
multiplication_sign modulo = sign.Percent

abbrev mutual
  pub expr_pieces : Expr → List Piece
  expr_pieces (sum_alone sum) = sum_pieces sum
  expr_pieces (compared left how right) = sum_pieces left ++ a_sign (comparison_sign how) ++ sum_pieces right

  pub sum_pieces : Sum → List Piece
  sum_pieces (prod_alone prod) = prod_pieces prod
  sum_pieces (added left how right) = sum_pieces left ++ a_sign (addition_sign how) ++ prod_pieces right

  pub prod_pieces : Prod → List Piece
  prod_pieces (unary_alone unary) = unary_pieces unary
  prod_pieces (multiplied left how right) = prod_pieces left ++ a_sign (multiplication_sign how) ++ unary_pieces right

  pub unary_pieces : Unary → List Piece
  unary_pieces (negated position unary) = sign_at position sign.Minus ++ unary_pieces unary
  unary_pieces (literal position value) = at position (number value) ∷ []
  unary_pieces (variable it) = named it ∷ []
  unary_pieces (bracketed position expr) = sign_at position sign.OpenRound ++ expr_pieces expr ++ a_sign sign.CloseRound

abbrev pub sums_pieces : Sums → List Piece
sums_pieces no_sums = []
sums_pieces (sums first more) = a_sign sign.Colon ++ sum_pieces first ++ flat_map (λ sum. a_sign sign.Comma ++ sum_pieces sum) more

abbrev pub item_pieces : Key → List Piece
item_pieces key = a_sign sign.OpenBracket ++ named key.collection ∷ sums_pieces key.components ++ a_sign sign.CloseBracket

abbrev pub tag_pieces : Key → List Piece
tag_pieces key = a_sign sign.Less ++ named key.collection ∷ sums_pieces key.components ++ a_sign sign.Greater

-- ---- statements

abbrev pub in_braces : List Piece → List Piece
in_braces pieces = a_sign sign.OpenBrace ++ pieces ++ a_sign sign.CloseBrace

abbrev pub in_braces_at : Position → List Piece → List Piece
in_braces_at position pieces = sign_at position sign.OpenBrace ++ pieces ++ a_sign sign.CloseBrace

abbrev pub condition_pieces : Expr → List Piece
condition_pieces condition = a_word kept.If ++ a_sign sign.OpenRound ++ expr_pieces condition ++ a_sign sign.CloseRound

module _ {B : Type 0} (own_pieces : B → List Piece) where
  abbrev mutual
    pub statement_pieces : Statement B → List Piece
    statement_pieces (own it) = own_pieces it
    statement_pieces (assigned it expr) = named it ∷ a_sign sign.Assign ++ expr_pieces expr ++ a_sign sign.Semicolon
    statement_pieces (if_alone condition brace first) = condition_pieces condition ++ in_braces_at brace (statements_pieces first)
    statement_pieces (if_else condition brace first other second) =
        condition_pieces condition ++ in_braces_at brace (statements_pieces first) ++ a_word kept.Else ++ in_braces_at other (statements_pieces second)
    statement_pieces (for it from to brace block) =
        a_word kept.For ++ named it ∷ a_word kept.In ++ expr_pieces from ++ a_sign sign.DoubleDot ++ expr_pieces to ++ in_braces_at brace (statements_pieces block)

    pub statements_pieces : Statements B → List Piece
    statements_pieces no_more = []
    statements_pieces (and_then first rest) = statement_pieces first ++ statements_pieces rest

-- ---- the tokens of a text

-- the token is this piece
abbrev pub IsPiece : Piece → Spot → Type 0
IsPiece (plain lexeme) spot = spot.0 ≡ lexeme
IsPiece (at position lexeme) spot = (spot.0 ≡ lexeme) × (spot.1 ≡ position)

-- the whole list of tokens is these pieces, one for one
abbrev pub ArePieces : List Piece → List Spot → Type 0
ArePieces [] [] = ⊤
ArePieces (piece ∷ pieces) (spot ∷ spots) = IsPiece piece spot × ArePieces pieces spots
ArePieces pieces spots = ⊥
