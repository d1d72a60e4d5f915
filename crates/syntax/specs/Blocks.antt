-- Statements without blocks, read one by one.
use Rattle.std.specs.Prelude.{◌≡◌, List, [], ◌∷◌, ◌++◌, drop}
use Rattle.steptree.specs.declared.step.Name.{Name}
use Rattle.steptree.specs.Simple.{NamedSimple}
use Rattle.steptree.specs.declared.simple.Simple.TheVariants.{Assign}
use Rattle.syntax.specs.declared.token.Symbol.TheVariants as sign
use Rattle.syntax.specs.Tokens.{Spot}
use Rattle.syntax.specs.Grammar.{Get, Put, Expr}
use Rattle.syntax.specs.Limits.{expr_limits}
use Rattle.syntax.specs.OwnStatements.{get_limits, put_limits, get_pieces, put_target_pieces, IsGet, IsPut}
use Rattle.syntax.specs.Spelled.{Piece, expr_pieces, a_sign}
use Rattle.syntax.specs.Tree.{IsExpr}
use Rattle.syntax.specs.Expected.{Expected, exactly, whole, possible, get_rest}
use Rattle.syntax.specs.Parsed.{Reads}

-- after the word `get`
pub record IsGetRead (statement : NamedSimple) (before after : List Spot) : Type 0 where
  pub get : Get
  pub reads : Reads get_rest [] (drop 1 (get_pieces get)) before after
  pub is : IsGet get statement
  pub within : get_limits get ≡ []

-- a put, of whose pieces after its word those in `front` were read before, and `rest` is read here, where `expected` may come
pub record IsPutRead (expected : List Expected) (front : List Piece) (statement : NamedSimple) (before after : List Spot) : Type 0 where
  pub put : Put
  pub rest : List Piece
  pub spelled : put_target_pieces put ≡ front ++ rest
  pub reads : Reads expected [] rest before after
  pub is : IsPut put statement
  pub within : put_limits put ≡ []

-- after the name that is assigned
abbrev pub assignment_rest : List Expected
assignment_rest = exactly sign.Assign ∷ whole possible ∷ exactly sign.Semicolon ∷ []

abbrev pub IsAssignment : Name → Expr → NamedSimple → Type 0
IsAssignment name expr (Assign other value) = (other ≡ name) × IsExpr expr value
IsAssignment name expr statement = ⊥

pub record IsValueRead (statement : NamedSimple) (name : Name) (before after : List Spot) : Type 0 where
  pub expr : Expr
  pub reads : Reads assignment_rest [] (a_sign sign.Assign ++ expr_pieces expr ++ a_sign sign.Semicolon) before after
  pub is : IsAssignment name expr statement
  pub within : expr_limits expr ≡ []
