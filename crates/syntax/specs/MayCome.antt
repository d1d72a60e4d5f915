-- What the grammar derives within the limits may come; past them a limit is reported.
use Rattle.std.specs.Prelude.{◌≡◌, ◌⊎◌, ⊤, ℕ, List, [], ◌∷◌, ◌++◌, slice_get, Some}
use Rattle.syntax.specs.declared.token.Symbol.{Symbol}
use Rattle.syntax.specs.declared.token.Symbol.TheVariants as sign
use Rattle.syntax.specs.Tokens.{Spot, symbol}
use Rattle.syntax.specs.Grammar.{Position, Expr, Key, GraphText}
use Rattle.syntax.specs.Spelled.{ArePieces, named, a_sign, expr_pieces, sums_pieces}
use Rattle.syntax.specs.GraphTexts.{Derives, graph_limits, IsWithin}
use Rattle.syntax.specs.Limits.{expr_limits, key_limits}
use Rattle.syntax.specs.Expected.{Expected, Kind, closing, key_rest, whole, possible, run, graph_expected, accepted, too_large}

-- a sign that may follow the expression of a statement
abbrev pub EndsExpression : Symbol → Type 0
EndsExpression sign.Semicolon = ⊤
EndsExpression sign.CloseRound = ⊤
EndsExpression sign.DoubleDot = ⊤
EndsExpression sign.OpenBrace = ⊤
EndsExpression _ = ⊥

-- where an expression is expected, one within the limits may come, and then what may come after it
abbrev pub ExpressionsMayCome : Type 0
ExpressionsMayCome = (expr : Expr) (tokens rest : List Spot) (end : Symbol) (position : Position) (behind : List Expected) → EndsExpression end → expr_limits expr ≡ [] → ArePieces (expr_pieces expr) tokens
    → run (whole possible ∷ behind) (tokens ++ (symbol end, position) ∷ rest) ≡ run behind ((symbol end, position) ∷ rest)

-- after its opening bracket, a key within the limits may come
abbrev pub KeysMayCome : Type 0
KeysMayCome = (kind : Kind) (key : Key) (tokens rest : List Spot) (behind : List Expected) → key_limits key ≡ [] → ArePieces (named key.collection ∷ sums_pieces key.components ++ a_sign (closing kind)) tokens
    → run (key_rest kind ++ behind) (tokens ++ rest) ≡ run behind rest

-- a graph text within the limits is accepted; for any other, a limit is reported at a place where the text passes one
abbrev pub GraphsAreJudged : Type 0
GraphsAreJudged = (graph : GraphText) (spots : List Spot) → Derives graph spots
    → (IsWithin graph × (run graph_expected spots ≡ accepted)) ⊎ ((place : Position) × (i : ℕ) × (slice_get (graph_limits graph) i ≡ Some place) × (run graph_expected spots ≡ too_large place))
