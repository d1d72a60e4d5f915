-- Graphs as texts: what declarations, relations and steps spell, the limits that are passed in them, and their trees.
use Rattle.std.specs.Prelude.{◌≡◌, codes, List, [], ◌∷◌, ◌++◌, Option, Some, None, ℕ, suc, length}
use Rattle.std.specs.List.{flat_map}
use Rattle.syntax.specs.declared.token.Word.TheVariants as kept
use Rattle.syntax.specs.declared.token.Symbol.TheVariants as sign
use Rattle.syntax.specs.Tokens.{name, word, symbol, Spot}
use Rattle.syntax.specs.Grammar.{Position, Named, Names, Declaration, item_declared, tag_declared, Relation, prescribes, reads, puts_item, puts_tag, environment_puts_item, environment_puts_tag, environment_gets, StepText, GraphText}
use Rattle.terms.specs.declared.key.TheConstants.{MAX_COMPONENTS}
use Rattle.steptree.specs.declared.slot.TheConstants.{MOST_NAMES}
use Rattle.steptree.specs.declared.sheet.TheConstants.{MOST_COLLECTIONS}
use Rattle.steptree.specs.declared.step.Step.{Step}
use Rattle.syntax.specs.declared.tree.Declaration.TheVariants as declared
use Rattle.syntax.specs.declared.tree.Relation.TheVariants as related
use Rattle.syntax.specs.declared.tree.Declaration.{Declaration as Declared}
use Rattle.syntax.specs.declared.tree.Relation.{Relation as Related}
use Rattle.syntax.specs.declared.tree.Tree.{Tree}
use Rattle.syntax.specs.Limits.{one_more, name_limits, names_behind, statements_limits}
use Rattle.syntax.specs.Spelled.{Piece, named, a_sign, sign_at, a_word, at, in_braces, statements_pieces, ArePieces}
use Rattle.syntax.specs.Tree.{IsName, AreAll, AreStatements}
use Rattle.syntax.specs.OwnStatements.{get_pieces, put_pieces, get_limits, put_limits, IsGet, IsPut}

-- ---- what they spell

abbrev pub names_pieces : Names → List Piece
names_pieces names = named names.first ∷ flat_map (λ it. a_sign sign.Comma ++ named it ∷ []) names.more

-- ":" and names, if there are some
abbrev pub after_colon : Option Names → List Piece
after_colon None = []
after_colon (Some names) = a_sign sign.Colon ++ names_pieces names

abbrev pub bracketed_name : Named → List Piece
bracketed_name it = a_sign sign.OpenBracket ++ named it ∷ a_sign sign.CloseBracket

abbrev pub angled_name : Named → List Piece
angled_name it = a_sign sign.Less ++ named it ∷ a_sign sign.Greater

abbrev pub round_name : Named → List Piece
round_name it = a_sign sign.OpenRound ++ named it ∷ a_sign sign.CloseRound

abbrev pub declaration_pieces : Declaration → List Piece
declaration_pieces (item_declared it components) = a_sign sign.OpenBracket ++ named it ∷ after_colon components ++ a_sign sign.CloseBracket ++ a_sign sign.Semicolon
declaration_pieces (tag_declared it components) = a_sign sign.Less ++ named it ∷ after_colon components ++ a_sign sign.Greater ++ a_sign sign.Semicolon

abbrev pub item_at : Position → Named → List Piece
item_at position it = sign_at position sign.OpenBracket ++ named it ∷ a_sign sign.CloseBracket

abbrev pub step_at : Position → Named → List Piece
step_at position it = sign_at position sign.OpenRound ++ named it ∷ a_sign sign.CloseRound

abbrev pub environment_at : Position → List Piece
environment_at position = at position (word kept.Env) ∷ []

-- one side, an arrow, the other side
abbrev pub arrow : List Piece → List Piece → List Piece
arrow from to = from ++ a_sign sign.Arrow ++ to ++ a_sign sign.Semicolon

abbrev pub relation_pieces : Relation → List Piece
relation_pieces (prescribes tag step) = angled_name tag ++ a_sign sign.DoubleColon ++ round_name step ++ a_sign sign.Semicolon
relation_pieces (reads position item step) = arrow (item_at position item) (round_name step)
relation_pieces (puts_item position step item) = arrow (step_at position step) (bracketed_name item)
relation_pieces (puts_tag position step tag) = arrow (step_at position step) (angled_name tag)
relation_pieces (environment_puts_item position item) = arrow (environment_at position) (bracketed_name item)
relation_pieces (environment_puts_tag position tag) = arrow (environment_at position) (angled_name tag)
relation_pieces (environment_gets position item) = arrow (item_at position item) (a_word kept.Env)

abbrev pub parameters_pieces : Option Names → List Piece
parameters_pieces None = []
parameters_pieces (Some names) = names_pieces names

abbrev pub variables_pieces : Option Names → List Piece
variables_pieces None = []
variables_pieces (Some names) = a_word kept.Var ++ names_pieces names ++ a_sign sign.Semicolon

abbrev pub step_pieces : StepText → List Piece
step_pieces step = a_word kept.Step ++ named step.name ∷ a_sign sign.OpenRound ++ parameters_pieces step.parameters ++ a_sign sign.CloseRound
    ++ in_braces (variables_pieces step.variables
    ++ a_word kept.Read ++ in_braces (statements_pieces get_pieces step.read)
    ++ a_word kept.Write ++ in_braces (statements_pieces put_pieces step.write))

abbrev pub graph_pieces : GraphText → List Piece
graph_pieces graph = flat_map declaration_pieces graph.declarations ++ flat_map relation_pieces graph.relations ++ flat_map step_pieces graph.steps

-- the tokens are a graph text with this derivation
abbrev pub Derives : GraphText → List Spot → Type 0
Derives graph spots = ArePieces (graph_pieces graph) spots

-- the derivation of a declaration of an item collection with one component
abbrev pub GrammarExample : Type 0
GrammarExample = Derives (record {
  declarations = item_declared ((codes "x"), 1) (Some (record { first = ((codes "i"), 4); more = [] })) ∷ [];
  relations = [];
  steps = [];
}) ((symbol sign.OpenBracket, 0) ∷ (name (codes "x"), 1) ∷ (symbol sign.Colon, 2) ∷ (name (codes "i"), 4) ∷ (symbol sign.CloseBracket, 5) ∷ (symbol sign.Semicolon, 6) ∷ [])

-- ---- limits

abbrev pub all_names : Option Names → List Named
all_names None = []
all_names (Some names) = names.first ∷ names.more

-- a collection's name, and then its components
abbrev pub declared_limits : Named → Option Names → List Position
declared_limits it components = name_limits it ++ flat_map name_limits (all_names components) ++ names_behind MAX_COMPONENTS (all_names components)

-- with `items` collections of items and `tags` of tags before
abbrev pub declarations_limits : ℕ → ℕ → List Declaration → List Position
declarations_limits items tags [] = []
declarations_limits items tags (item_declared it components ∷ more) =
    one_more MOST_COLLECTIONS items it.1 ++ declared_limits it components ++ declarations_limits (suc items) tags more
declarations_limits items tags (tag_declared it components ∷ more) =
    one_more MOST_COLLECTIONS tags it.1 ++ declared_limits it components ++ declarations_limits items (suc tags) more

abbrev pub relation_limits : Relation → List Position
relation_limits (prescribes tag step) = name_limits tag ++ name_limits step
relation_limits (reads position item step) = name_limits item ++ name_limits step
relation_limits (puts_item position step item) = name_limits step ++ name_limits item
relation_limits (puts_tag position step tag) = name_limits step ++ name_limits tag
relation_limits (environment_puts_item position item) = name_limits item
relation_limits (environment_puts_tag position tag) = name_limits tag
relation_limits (environment_gets position item) = name_limits item

abbrev pub step_names : StepText → List Named
step_names step = all_names step.parameters ++ all_names step.variables

abbrev pub step_limits : StepText → List Position
step_limits step = name_limits step.name ++ flat_map name_limits (step_names step) ++ names_behind MAX_COMPONENTS (all_names step.parameters)
    ++ names_behind MOST_NAMES (step_names step) ++ statements_limits get_limits 0 step.read ++ statements_limits put_limits 0 step.write

-- with `before` steps before
abbrev pub steps_limits : ℕ → List StepText → List Position
steps_limits before [] = []
steps_limits before (step ∷ more) = one_more MOST_COLLECTIONS before step.name.1 ++ step_limits step ++ steps_limits (suc before) more

-- all places at which a limit is passed
abbrev pub graph_limits : GraphText → List Position
graph_limits graph = declarations_limits 0 0 graph.declarations ++ flat_map relation_limits graph.relations ++ steps_limits 0 graph.steps

abbrev pub IsWithin : GraphText → Type 0
IsWithin graph = graph_limits graph ≡ []

-- ---- trees

abbrev pub IsDeclaration : Declaration → Declared → Type 0
IsDeclaration (item_declared it components) (declared.Item one many) = IsName it one × (many ≡ length (all_names components))
IsDeclaration (tag_declared it components) (declared.Tag one many) = IsName it one × (many ≡ length (all_names components))
IsDeclaration declaration other = ⊥

abbrev pub IsRelation : Relation → Related → Type 0
IsRelation (prescribes tag step) (related.Prescribes one two) = IsName tag one × IsName step two
IsRelation (reads position item step) (related.Reads place one two) = (place ≡ position) × IsName item one × IsName step two
IsRelation (puts_item position step item) (related.PutsItem place one two) = (place ≡ position) × IsName step one × IsName item two
IsRelation (puts_tag position step tag) (related.PutsTag place one two) = (place ≡ position) × IsName step one × IsName tag two
IsRelation (environment_puts_item position item) (related.EnvironmentPutsItem place one) = (place ≡ position) × IsName item one
IsRelation (environment_puts_tag position tag) (related.EnvironmentPutsTag place one) = (place ≡ position) × IsName tag one
IsRelation (environment_gets position item) (related.EnvironmentGets place one) = (place ≡ position) × IsName item one
IsRelation relation other = ⊥

pub record IsStep (text : StepText) (step : Step) : Type 0 where
  pub name : IsName text.name step.name
  pub parameters : AreAll IsName (all_names text.parameters) step.parameters.items
  pub variables : AreAll IsName (all_names text.variables) step.variables.items
  pub read : AreStatements IsGet text.read step.read
  pub write : AreStatements IsPut text.write step.write

pub record IsTree (graph : GraphText) (tree : Tree) : Type 0 where
  pub declarations : AreAll IsDeclaration graph.declarations tree.declarations.items
  pub relations : AreAll IsRelation graph.relations tree.relations.items
  pub steps : AreAll IsStep graph.steps tree.steps.items
