-- Relations that are read, and their parts.
use Rattle.std.specs.Prelude.{◌≡◌, List, [], ◌∷◌, ◌++◌, Option, Some, None}
use Rattle.steptree.specs.declared.step.Name.{Name}
use Rattle.syntax.specs.declared.relations.Target.{Target}
use Rattle.syntax.specs.declared.relations.Target.TheVariants as target
use Rattle.syntax.specs.declared.token.Symbol.{Symbol}
use Rattle.syntax.specs.declared.token.Symbol.TheVariants as sign
use Rattle.syntax.specs.declared.tree.Relation.{Relation as Related}
use Rattle.syntax.specs.Tokens.{Spot}
use Rattle.syntax.specs.Grammar.{Position, Named, Relation}
use Rattle.syntax.specs.Limits.{name_limits}
use Rattle.syntax.specs.GraphTexts.{relation_limits, item_at, bracketed_name, angled_name, environment_at, relation_pieces, IsRelation}
use Rattle.syntax.specs.Spelled.{Piece, named, a_sign, sign_at}
use Rattle.syntax.specs.Expected.{Expected, exactly, a_name, reader, related, relations, steps}
use Rattle.syntax.specs.Parsed.{Reads, named_of}

-- a name, its closing bracket and a semicolon
abbrev pub last_name_rest : Symbol → List Expected
last_name_rest close = a_name ∷ exactly close ∷ exactly sign.Semicolon ∷ []

-- an arrow, and what is put
abbrev pub target_rest : List Expected
target_rest = exactly sign.Arrow ∷ related ∷ exactly sign.Semicolon ∷ []

-- after an item: an arrow, and what reads it
abbrev pub reader_rest : List Expected
reader_rest = exactly sign.Arrow ∷ reader ∷ exactly sign.Semicolon ∷ []

-- after a tag: the step that it prescribes
abbrev pub prescribed_step : List Expected
prescribed_step = exactly sign.DoubleColon ∷ exactly sign.OpenRound ∷ last_name_rest sign.CloseRound

abbrev pub target_name : Target → Name
target_name (target.Item name) = name
target_name (target.Tag name) = name

abbrev pub target_pieces : Target → List Piece
target_pieces (target.Item name) = bracketed_name (named_of name)
target_pieces (target.Tag name) = angled_name (named_of name)

-- the rest of a relation after the pieces `front`, in which `limits` are passed; `more` is expected in place of `expected`
pub record IsRelationRest (expected more : List Expected) (front : List Piece) (limits : List Position) (tree : Related) (before after : List Spot) : Type 0 where
  pub relation : Relation
  pub rest : List Piece
  pub spelled : relation_pieces relation ≡ front ++ rest
  pub reads : Reads expected more rest before after
  pub is : IsRelation relation tree
  pub within : relation_limits relation ≡ limits

-- ---- the parts of a relation, each up to its end

-- a name, its closing bracket and a semicolon
abbrev pub ReadsLastName : Symbol → Name → List Spot → List Spot → Type 0
ReadsLastName close name = Reads (last_name_rest close) [] (named (named_of name) ∷ a_sign close ++ a_sign sign.Semicolon)

-- an arrow, what is put, and a semicolon
abbrev pub ReadsTarget : Target → List Spot → List Spot → Type 0
ReadsTarget it = Reads target_rest [] (a_sign sign.Arrow ++ target_pieces it ++ a_sign sign.Semicolon)

-- what reads an item, after the item, whose bracket is at this place; and what a tag prescribes, after the tag
abbrev pub ReadsBehindItem : Position → Named → Related → List Spot → List Spot → Type 0
ReadsBehindItem place name = IsRelationRest reader_rest [] (item_at place name) (name_limits name)

abbrev pub ReadsBehindTag : Named → Related → List Spot → List Spot → Type 0
ReadsBehindTag name = IsRelationRest prescribed_step [] (angled_name name) (name_limits name)

-- a relation that begins with an item, with a tag, with a step or with `env`, after its first token
abbrev pub item_relation_rest : List Expected
item_relation_rest = a_name ∷ exactly sign.CloseBracket ∷ reader_rest

abbrev pub tag_relation_rest : List Expected
tag_relation_rest = a_name ∷ exactly sign.Greater ∷ prescribed_step

abbrev pub step_relation_rest : List Expected
step_relation_rest = a_name ∷ exactly sign.CloseRound ∷ target_rest

abbrev pub ReadsItemRelation : Position → Related → List Spot → List Spot → Type 0
ReadsItemRelation place = IsRelationRest item_relation_rest [] (sign_at place sign.OpenBracket) []

abbrev pub ReadsTagRelation : Related → List Spot → List Spot → Type 0
ReadsTagRelation = IsRelationRest tag_relation_rest [] (a_sign sign.Less) []

abbrev pub ReadsStepRelation : Position → Related → List Spot → List Spot → Type 0
ReadsStepRelation place = IsRelationRest step_relation_rest [] (sign_at place sign.OpenRound) []

abbrev pub ReadsEnvironmentRelation : Position → Related → List Spot → List Spot → Type 0
ReadsEnvironmentRelation place = IsRelationRest target_rest [] (environment_at place) []

-- a relation from its first token on; if none begins here, steps may come
abbrev pub IsRelationOrNone : Option Related → List Spot → List Spot → Type 0
IsRelationOrNone (Some tree) before after = IsRelationRest (relations ∷ []) (relations ∷ []) [] [] tree before after
IsRelationOrNone None before after = Reads (relations ∷ []) (steps 0 ∷ []) [] before after
