-- The statements that only one part of a step has, reads of items and puts: what each spells, the limits that are passed in it, and
-- its statement with names.
use Rattle.std.specs.Prelude.{List, ◌∷◌, ◌++◌}
use Rattle.syntax.specs.declared.token.Word.TheVariants as kept
use Rattle.syntax.specs.declared.token.Symbol.TheVariants as sign
use Rattle.syntax.specs.Grammar.{Position, Get, Put, put_item, put_tag}
use Rattle.steptree.specs.Simple.{NamedSimple}
use Rattle.steptree.specs.declared.simple.Simple.TheVariants as simple
use Rattle.syntax.specs.Limits.{name_limits, expr_limits, key_limits}
use Rattle.syntax.specs.Spelled.{Piece, named, a_sign, a_word, expr_pieces, item_pieces, tag_pieces}
use Rattle.syntax.specs.Tree.{IsName, IsExpr, IsKey}

-- ---- what they spell

abbrev pub get_pieces : Get → List Piece
get_pieces get = a_word kept.Get ++ named get.variable ∷ a_sign sign.Assign ++ item_pieces get.item ++ a_sign sign.Semicolon

-- what is put
abbrev pub put_target_pieces : Put → List Piece
put_target_pieces (put_item item value) = item_pieces item ++ a_sign sign.Assign ++ expr_pieces value ++ a_sign sign.Semicolon
put_target_pieces (put_tag tag) = tag_pieces tag ++ a_sign sign.Semicolon

abbrev pub put_pieces : Put → List Piece
put_pieces put = a_word kept.Put ++ put_target_pieces put

-- ---- limits

abbrev pub get_limits : Get → List Position
get_limits get = name_limits get.variable ++ key_limits get.item

abbrev pub put_limits : Put → List Position
put_limits (put_item item value) = key_limits item ++ expr_limits value
put_limits (put_tag tag) = key_limits tag

-- ---- their statements with names

abbrev pub IsGet : Get → NamedSimple → Type 0
IsGet get (simple.Get name collection components) = IsName get.variable name × IsKey get.item collection components.items
IsGet get statement = ⊥

abbrev pub IsPut : Put → NamedSimple → Type 0
IsPut (put_item item expr) (simple.PutItem collection components value) = IsKey item collection components.items × IsExpr expr value
IsPut (put_tag tag) (simple.PutTag collection components) = IsKey tag collection components.items
IsPut put statement = ⊥
