-- Declarations that are read, and the relations after them.
use Rattle.std.specs.Prelude.{◌≡◌, ℕ, suc, Bool, List, [], ◌∷◌, ◌++◌, length, Option, Some, None}
use Rattle.std.specs.List.{flat_map}
use Rattle.terms.specs.declared.key.TheConstants.{MAX_COMPONENTS}
use Rattle.syntax.specs.declared.declarations.Front.{Front}
use Rattle.syntax.specs.declared.declarations.Front.TheVariants as begins
use Rattle.syntax.specs.declared.preamble.Preamble.{Preamble}
use Rattle.syntax.specs.declared.stop.Stop.{Stop}
use Rattle.syntax.specs.declared.token.Symbol.{Symbol}
use Rattle.syntax.specs.declared.token.Symbol.TheVariants as sign
use Rattle.syntax.specs.declared.tree.Declaration.{Declaration as Declared}
use Rattle.syntax.specs.declared.tree.Declaration.TheVariants as declares
use Rattle.syntax.specs.declared.tree.Relation.{Relation as Related}
use Rattle.syntax.specs.Tokens.{Spot}
use Rattle.syntax.specs.Grammar.{Position, Names, Declaration, Relation}
use Rattle.syntax.specs.Limits.{name_limits, names_behind}
use Rattle.syntax.specs.GraphTexts.{all_names, declarations_limits, relation_limits, names_pieces, after_colon, declaration_pieces, relation_pieces, IsDeclaration, IsRelation}
use Rattle.syntax.specs.Spelled.{Piece, a_sign, sign_at}
use Rattle.syntax.specs.Tree.{AreAll}
use Rattle.syntax.specs.Expected.{Kind, item, tag, opening, Expected, exactly, declarations, front as after_bracket, front_named, front_closed, component_name, relations, declared, declared_limits, closing}
use Rattle.syntax.specs.Parsed.{Reads, Stops}
use Rattle.syntax.specs.NameLists.{IsFull}
use Rattle.syntax.specs.Relations.{IsRelationRest, reader_rest, prescribed_step}

-- whether there is no room for one more collection of a kind, with `items` items and `tags` tags before it
abbrev pub IsFullOf : Kind → ℕ → ℕ → Bool → Type 0
IsFullOf kind items tags full = IsFull full (declared_limits kind items tags)

-- the names of components, the closing bracket and a semicolon
abbrev pub components_rest : Symbol → List Expected
components_rest close = component_name 0 ∷ exactly close ∷ exactly sign.Semicolon ∷ []

-- no names, or not too many, and their number is `count`
pub record AreCounted (names : Option Names) (count : ℕ) : Type 0 where
  pub counted : count ≡ length (all_names names)
  pub within : flat_map name_limits (all_names names) ++ names_behind MAX_COMPONENTS (all_names names) ≡ []

pub record IsComponentsRest (close : Symbol) (count : ℕ) (before after : List Spot) : Type 0 where
  pub names : Names
  pub reads : Reads (components_rest close) [] (names_pieces names ++ a_sign close ++ a_sign sign.Semicolon) before after
  pub counted : AreCounted (Some names) count

-- after the collection of a relation
abbrev pub relation_rest : Kind → List Expected
relation_rest item = reader_rest
relation_rest tag = prescribed_step

-- after the closing bracket: the end of a declaration without components, for which there is room, or a relation
abbrev pub IsEnd : Kind → ℕ → ℕ → Position → Option ℕ → List Spot → List Spot → Type 0
IsEnd kind items tags place (Some count) before after =
    Reads (front_closed kind items tags place ∷ []) (declared kind items tags ∷ []) (a_sign sign.Semicolon) before after × (declared_limits kind items tags place ≡ []) × (count ≡ 0)
IsEnd kind items tags place None before after = Reads (front_closed kind items tags place ∷ []) (relation_rest kind ++ relations ∷ []) [] before after

-- a declaration after its name, with `count` components
pub record IsDeclaredRest (kind : Kind) (items tags : ℕ) (place : Position) (count : ℕ) (before after : List Spot) : Type 0 where
  pub components : Option Names
  pub reads : Reads (front_named kind items tags place ∷ []) (declared kind items tags ∷ []) (after_colon components ++ a_sign (closing kind) ++ a_sign sign.Semicolon) before after
  pub counted : AreCounted components count
  pub room : declared_limits kind items tags place ≡ []

-- after the name: a declaration, or else a relation
abbrev pub IsBehindName : Kind → ℕ → ℕ → Position → Option ℕ → List Spot → List Spot → Type 0
IsBehindName kind items tags place (Some count) before after = IsDeclaredRest kind items tags place count before after
IsBehindName kind items tags place None before after = Reads (front_named kind items tags place ∷ []) (relation_rest kind ++ relations ∷ []) (a_sign (closing kind)) before after

-- the rest of a declaration after these pieces of it, with `items` items and `tags` tags before it, and `more_items` and `more_tags` with it
pub record IsDeclarationRest (expected : List Expected) (pieces : List Piece) (items tags more_items more_tags : ℕ) (tree : Declared) (before after : List Spot) : Type 0 where
  pub declaration : Declaration
  pub rest : List Piece
  pub spelled : declaration_pieces declaration ≡ pieces ++ rest
  pub reads : Reads expected (declarations more_items more_tags ∷ []) rest before after
  pub is : IsDeclaration declaration tree
  pub within : (more : List Declaration) → declarations_limits items tags (declaration ∷ more) ≡ declarations_limits more_items more_tags more

-- a declaration after the pieces `one` of it, or a relation after the pieces `two` of it
abbrev pub IsFront : List Expected → List Piece → List Piece → ℕ → ℕ → Front → List Spot → List Spot → Type 0
IsFront expected one two items tags (begins.Item name count) before after = IsDeclarationRest expected one items tags (suc items) tags (declares.Item name count) before after
IsFront expected one two items tags (begins.Tag name count) before after = IsDeclarationRest expected one items tags items (suc tags) (declares.Tag name count) before after
IsFront expected one two items tags (begins.Relation tree) before after = IsRelationRest expected (relations ∷ []) two [] tree before after

-- ---- what is read where there is room for one more collection, or is none, whatever stands before

-- after the closing bracket
abbrev pub ReadsEnd : Position → Bool → Option ℕ → List Spot → List Spot → Type 0
ReadsEnd place full count before after = (kind : Kind) (items tags : ℕ) → IsFullOf kind items tags full → IsEnd kind items tags place count before after

abbrev pub StopsAtEnd : Position → Bool → List Spot → List Spot → Stop → Type 0
StopsAtEnd place full before after stop = (kind : Kind) (items tags : ℕ) → IsFullOf kind items tags full → Stops (front_closed kind items tags place ∷ []) before after stop

-- after the name, with this closing bracket
abbrev pub ReadsBehindName : Symbol → Position → Bool → Option ℕ → List Spot → List Spot → Type 0
ReadsBehindName close place full count before after = (kind : Kind) (items tags : ℕ) → close ≡ closing kind → IsFullOf kind items tags full → IsBehindName kind items tags place count before after

abbrev pub StopsBehindName : Symbol → Position → Bool → List Spot → List Spot → Stop → Type 0
StopsBehindName close place full before after stop = (kind : Kind) (items tags : ℕ) → close ≡ closing kind → IsFullOf kind items tags full
    → Stops (front_named kind items tags place ∷ []) before after stop

-- the opening bracket of a relation that begins with a collection: its place is kept before an item
abbrev pub opening_at : Kind → Position → List Piece
opening_at item place = sign_at place sign.OpenBracket
opening_at tag place = a_sign sign.Less

-- after the opening bracket, which is at this place, with this closing bracket
abbrev pub ReadsFront : Symbol → Position → Bool → Front → List Spot → List Spot → Type 0
ReadsFront close place full begun before after = (kind : Kind) → close ≡ closing kind → (items tags : ℕ) → IsFullOf kind items tags full
    → IsFront (after_bracket kind items tags ∷ []) (a_sign (opening kind)) (opening_at kind place) items tags begun before after

abbrev pub StopsAtFront : Symbol → Bool → List Spot → List Spot → Stop → Type 0
StopsAtFront close full before after stop = (kind : Kind) → close ≡ closing kind → (items tags : ℕ) → IsFullOf kind items tags full → Stops (after_bracket kind items tags ∷ []) before after stop

-- ---- all declarations

-- if neither begins here, relations may come
abbrev pub IsFrontOrNone : ℕ → ℕ → Option Front → List Spot → List Spot → Type 0
IsFrontOrNone items tags (Some front) before after = IsFront (declarations items tags ∷ []) [] [] items tags front before after
IsFrontOrNone items tags None before after = Reads (declarations items tags ∷ []) (relations ∷ []) [] before after

-- the declarations so far, with `items` items and `tags` tags among them
pub record AreDeclared (items tags : ℕ) (trees : List Declared) (before after : List Spot) : Type 0 where
  pub read : List Declaration
  pub reads : Reads (declarations 0 0 ∷ []) (declarations items tags ∷ []) (flat_map declaration_pieces read) before after
  pub are : AreAll IsDeclaration read trees
  pub within : (more : List Declaration) → declarations_limits 0 0 (read ++ more) ≡ declarations_limits items tags more

-- declarations and relations from the beginning of a text, and then `more` may come
pub record ArePreamble (more : List Expected) (declarations_read : List Declared) (relations_read : List Related) (before after : List Spot) : Type 0 where
  pub declared : List Declaration
  pub related : List Relation
  pub reads : Reads (declarations 0 0 ∷ []) more (flat_map declaration_pieces declared ++ flat_map relation_pieces related) before after
  pub declarations : AreAll IsDeclaration declared declarations_read
  pub relations : AreAll IsRelation related relations_read
  pub declarations_within : declarations_limits 0 0 declared ≡ []
  pub relations_within : flat_map relation_limits related ≡ []

abbrev pub IsPreamble : List Expected → Preamble → List Spot → List Spot → Type 0
IsPreamble more preamble before after = ArePreamble more preamble.declarations.items preamble.relations.items before after
