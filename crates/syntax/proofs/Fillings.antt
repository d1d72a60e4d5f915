-- The fillings of each thing that may come: what can stand there, the pieces that it spells and the limits that it passes.
use Rattle.std.specs.Prelude.{◌≡◌, ⊤, ℕ, suc, List, [], ◌∷◌, ◌++◌, Option, Some, None}
use Rattle.std.specs.List.{flat_map}
use Rattle.std.proofs.Common.{◌≡◌, List, [], ◌∷◌, ◌++◌, refl, ap, sym, ◌∙◌, append_assoc, arith}
use Rattle.terms.specs.declared.key.TheConstants.{MAX_COMPONENTS}
use Rattle.steptree.specs.declared.slot.TheConstants.{MOST_NAMES}
use Rattle.steptree.specs.declared.sheet.TheConstants.{MOST_COLLECTIONS}
use Rattle.syntax.specs.declared.limits.TheConstants.{MOST_BRACES}
use Rattle.syntax.specs.declared.token.Word.TheVariants as kept
use Rattle.syntax.specs.declared.token.Symbol.TheVariants as sign
use Rattle.syntax.specs.Grammar.{Position, Named, Expr, sum_alone, Sum, Prod, Sums, Statements, Put, Names, Relation, StepText, GraphText}
use Rattle.syntax.specs.Spelled.{Piece, named, a_sign, sign_at, a_word, expr_pieces, sum_pieces, prod_pieces, sums_pieces, statements_pieces}
use Rattle.syntax.specs.OwnStatements.{put_target_pieces, put_limits}
use Rattle.syntax.specs.GraphTexts.{names_pieces, bracketed_name, angled_name, round_name, relation_pieces, parameters_pieces, variables_pieces, step_pieces, graph_pieces, all_names, declarations_limits, relation_limits, steps_limits}
use Rattle.syntax.specs.Limits.{one_more, name_limits, sum_limits, expr_limits, sums_limits, statements_limits}
use Rattle.syntax.specs.Expected.{Comparing, never, possible, behind_left, Expression, Kind, item, tag, closing, Part, Expected, declared_limits, exactly, keyword, a_name, whole, operand}
use Rattle.syntax.specs.Expected.{behind_operand, components, more_components, statements, nested_brace, or_else, put_target, declarations, front, front_named, front_closed, component_name}
use Rattle.syntax.specs.Expected.{behind_component, relations, reader, related, steps, step_name, parameters, parameter, behind_parameter, variables, step_variable, behind_variable}
use Rattle.syntax.specs.Statements.{Own, own_pieces, own_limits, Second, second_pieces, second_limits}
use Rattle.syntax.specs.Partial.{outermost, state_pieces, comparison_waiting, IsBehind}

-- ---- expressions

-- a key's component is a sum alone
abbrev pub Fits : Comparing → Expr → Type 0
Fits never expr = (sum : Sum) × (expr ≡ sum_alone sum)
Fits possible expr = ⊤
Fits (behind_left left how) expr = ⊤

-- an expression that spells these pieces
pub record Ends (comparing : Comparing) (pieces : List Piece) : Type 0 where
  pub expr : Expr
  pub fits : Fits comparing expr
  pub spelled : expr_pieces expr ≡ pieces

-- pieces still to come, and what is made with them
pub record ToCome (Makes : List Piece → Type 0) : Type 0 where
  pub rest : List Piece
  pub makes : Makes rest

abbrev pub EndsOperand : Expression → List Piece → Type 0
EndsOperand state rest = Ends (outermost state.level state.outer) (state_pieces state ++ rest)

abbrev pub EndsBehind : Expression → Prod → List Piece → Type 0
EndsBehind state prod rest = IsBehind state → Ends (outermost state.level state.outer) ((state_pieces state ++ prod_pieces prod) ++ rest)

abbrev pub Whole : Comparing → Type 0
Whole never = Sum
Whole possible = Expr
Whole (behind_left left how) = ToCome (λ rest. Ends (behind_left left how) (comparison_waiting (behind_left left how) ++ rest))

abbrev pub whole_pieces : (comparing : Comparing) → Whole comparing → List Piece
whole_pieces never sum = sum_pieces sum
whole_pieces possible expr = expr_pieces expr
whole_pieces (behind_left left how) ending = ending.rest

abbrev pub whole_limits : (comparing : Comparing) → Whole comparing → List Position
whole_limits never sum = sum_limits sum
whole_limits possible expr = expr_limits expr
whole_limits (behind_left left how) ending = []

abbrev pub comma_and : Sum → List Piece
comma_and sum = a_sign sign.Comma ++ sum_pieces sum

-- ---- statements

abbrev pub Block : Part → Type 0
Block part = Statements (Own part)

abbrev pub block_pieces : (part : Part) → Block part → List Piece
block_pieces part block = statements_pieces (own_pieces part) block

abbrev pub block_limits : (part : Part) → ℕ → Block part → List Position
block_limits part around block = statements_limits (own_limits part) around block

-- ---- names

abbrev pub comma_name : Named → List Piece
comma_name it = a_sign sign.Comma ++ named it ∷ []

abbrev pub more_names : List Named → List Piece
more_names names = flat_map comma_name names

-- the limits at each of these names, with `before` names before them
abbrev pub each_limits : (ℕ → Position → List Position) → ℕ → List Named → List Position
each_limits limits before [] = []
each_limits limits before (it ∷ names) = (name_limits it ++ limits before it.1) ++ each_limits limits (suc before) names

abbrev pub counted : ℕ → List Named → ℕ
counted before [] = before
counted before (it ∷ names) = counted (suc before) names

abbrev pub component_limits : ℕ → List Named → List Position
component_limits before names = each_limits (one_more MAX_COMPONENTS) before names

abbrev pub variable_limits : ℕ → List Named → List Position
variable_limits before names = each_limits (one_more MOST_NAMES) before names

abbrev pub parameter_limits : ℕ → List Named → List Position
parameter_limits before names = each_limits (λ count place. one_more MAX_COMPONENTS count place ++ one_more MOST_NAMES count place) before names

-- the names of a step after those of its parameters that were read
pub record StepNames (Parameters : Type 0) : Type 0 where
  pub parameters : Parameters
  pub variables : Option Names

-- after the parameters
abbrev pub behind_parameters : Option Names → List Piece
behind_parameters names = a_sign sign.CloseRound ++ a_sign sign.OpenBrace ++ variables_pieces names

abbrev pub names_limits : ℕ → List Named → Option Names → List Position
names_limits before names more = parameter_limits before names ++ variable_limits (counted before names) (all_names more)

-- ---- graphs

pub record RelationsAndSteps : Type 0 where
  pub relations : List Relation
  pub steps : List StepText

abbrev pub relations_and_steps : RelationsAndSteps → List Piece
relations_and_steps them = flat_map relation_pieces them.relations ++ flat_map step_pieces them.steps

abbrev pub rest_limits : RelationsAndSteps → List Position
rest_limits them = flat_map relation_limits them.relations ++ steps_limits 0 them.steps

-- what reads an item: a step, or the environment
abbrev pub reader_pieces : Option Named → List Piece
reader_pieces None = a_word kept.Env
reader_pieces (Some step) = round_name step

abbrev pub reader_limits : Option Named → List Position
reader_limits None = []
reader_limits (Some step) = name_limits step

-- a collection of this kind
abbrev pub collection_pieces : Kind → Named → List Piece
collection_pieces item it = bracketed_name it
collection_pieces tag it = angled_name it

-- what a relation has after the closing bracket of its collection
abbrev pub Target : Kind → Type 0
Target item = Option Named
Target tag = Named

abbrev pub target_behind : (kind : Kind) → Target kind → List Piece
target_behind item it = a_sign sign.Arrow ++ reader_pieces it
target_behind tag step = a_sign sign.DoubleColon ++ round_name step

abbrev pub target_limits : (kind : Kind) → Target kind → List Position
target_limits item it = reader_limits it
target_limits tag step = name_limits step

-- a text after the closing bracket of its first declaration or relation
pub data Closed (kind : Kind) : Type 0 where
  declares : GraphText → Closed kind
  relates : Target kind → RelationsAndSteps → Closed kind

abbrev pub closed_pieces : (kind : Kind) → Closed kind → List Piece
closed_pieces kind (declares graph) = a_sign sign.Semicolon ++ graph_pieces graph
closed_pieces kind (relates target them) = target_behind kind target ++ a_sign sign.Semicolon ++ relations_and_steps them

-- a text after the name of that collection
pub data Front (kind : Kind) : Type 0 where
  with_components : Names → GraphText → Front kind
  closes : Closed kind → Front kind

abbrev pub front_pieces : (kind : Kind) → Front kind → List Piece
front_pieces kind (with_components names graph) = a_sign sign.Colon ++ names_pieces names ++ a_sign (closing kind) ++ a_sign sign.Semicolon ++ graph_pieces graph
front_pieces kind (closes it) = a_sign (closing kind) ++ closed_pieces kind it

abbrev pub text_limits : ℕ → ℕ → GraphText → List Position
text_limits items tags graph = declarations_limits items tags graph.declarations ++ (flat_map relation_limits graph.relations ++ steps_limits 0 graph.steps)

abbrev pub after_declared : Kind → ℕ → ℕ → GraphText → List Position
after_declared item items tags graph = text_limits (suc items) tags graph
after_declared tag items tags graph = text_limits items (suc tags) graph

abbrev pub closed_limits : (kind : Kind) → ℕ → ℕ → Position → Closed kind → List Position
closed_limits kind items tags place (declares graph) = declared_limits kind items tags place ++ after_declared kind items tags graph
closed_limits kind items tags place (relates target them) = target_limits kind target ++ rest_limits them

abbrev pub front_limits : (kind : Kind) → ℕ → ℕ → Position → Front kind → List Position
front_limits kind items tags place (with_components names graph) = declared_limits kind items tags place ++ (component_limits 0 (all_names (Some names)) ++ after_declared kind items tags graph)
front_limits kind items tags place (closes it) = closed_limits kind items tags place it

-- ---- one after another

pub record Both (First Rest : Type 0) : Type 0 where
  pub first : First
  pub rest : Rest

infixr 5 ◌▸◌
abbrev pub ◌▸◌ : {First Rest : Type 0} → First → Rest → Both First Rest
first ▸ rest = record { first = first; rest = rest }

-- ---- all things that may come

-- what can stand there, the pieces that it spells, and the limits that it passes
pub record Thing : Type 1 where
  pub Fills : Type 0
  pub pieces : Fills → List Piece
  pub limits : Fills → List Position

abbrev pub thing : Expected → Thing
thing (exactly it) = record { Fills = ⊤; pieces = λ _. a_sign it; limits = λ _. [] }
thing (keyword it) = record { Fills = ⊤; pieces = λ _. a_word it; limits = λ _. [] }
thing a_name = record { Fills = Named; pieces = λ filling. named filling ∷ []; limits = name_limits }
thing (whole comparing) = record { Fills = Whole comparing; pieces = whole_pieces comparing; limits = whole_limits comparing }
thing (operand state) = record { Fills = ToCome (EndsOperand state); pieces = λ filling. filling.rest; limits = λ _. [] }
thing (behind_operand state prod) = record { Fills = ToCome (EndsBehind state prod); pieces = λ filling. filling.rest; limits = λ _. [] }
thing components = record { Fills = Sums; pieces = sums_pieces; limits = sums_limits }
thing more_components = record { Fills = List Sum; pieces = flat_map comma_and; limits = flat_map sum_limits }
thing (statements part around) = record { Fills = Block part; pieces = block_pieces part; limits = block_limits part around }
thing (nested_brace around) = record { Fills = Position; pieces = λ filling. sign_at filling sign.OpenBrace; limits = one_more MOST_BRACES around }
thing (or_else part around) = record { Fills = Second part; pieces = second_pieces part; limits = second_limits part around }
thing put_target = record { Fills = Put; pieces = put_target_pieces; limits = put_limits }
thing (declarations items tags) = record { Fills = GraphText; pieces = graph_pieces; limits = text_limits items tags }
thing (front kind items tags) = record {
  Fills = Both Named (Front kind);
  pieces = λ filling. named filling.first ∷ front_pieces kind filling.rest;
  limits = λ filling. name_limits filling.first ++ front_limits kind items tags filling.first.1 filling.rest;
}
thing (front_named kind items tags at) = record { Fills = Front kind; pieces = front_pieces kind; limits = front_limits kind items tags at }
thing (front_closed kind items tags at) = record { Fills = Closed kind; pieces = closed_pieces kind; limits = closed_limits kind items tags at }
thing (component_name before) = record { Fills = Names; pieces = names_pieces; limits = λ filling. component_limits before (all_names (Some filling)) }
thing (behind_component before) = record { Fills = List Named; pieces = more_names; limits = component_limits before }
thing relations = record { Fills = RelationsAndSteps; pieces = relations_and_steps; limits = rest_limits }
thing reader = record { Fills = Option Named; pieces = reader_pieces; limits = reader_limits }
thing related = record { Fills = Both Kind Named; pieces = λ filling. collection_pieces filling.first filling.rest; limits = λ filling. name_limits filling.rest }
thing (steps before) = record { Fills = List StepText; pieces = flat_map step_pieces; limits = steps_limits before }
thing (step_name before) = record { Fills = Named; pieces = λ filling. named filling ∷ []; limits = λ filling. name_limits filling ++ one_more MOST_COLLECTIONS before filling.1 }
thing parameters = record {
  Fills = StepNames (Option Names);
  pieces = λ filling. parameters_pieces filling.parameters ++ behind_parameters filling.variables;
  limits = λ filling. names_limits 0 (all_names filling.parameters) filling.variables;
}
thing (parameter before) = record {
  Fills = StepNames Names;
  pieces = λ filling. names_pieces filling.parameters ++ behind_parameters filling.variables;
  limits = λ filling. names_limits before (all_names (Some filling.parameters)) filling.variables;
}
thing (behind_parameter before) = record {
  Fills = StepNames (List Named);
  pieces = λ filling. more_names filling.parameters ++ behind_parameters filling.variables;
  limits = λ filling. names_limits before filling.parameters filling.variables;
}
thing (variables before) = record { Fills = Option Names; pieces = variables_pieces; limits = λ filling. variable_limits before (all_names filling) }
thing (step_variable before) = record { Fills = Names; pieces = λ filling. names_pieces filling ++ a_sign sign.Semicolon; limits = λ filling. variable_limits before (all_names (Some filling)) }
thing (behind_variable before) = record { Fills = List Named; pieces = λ filling. more_names filling ++ a_sign sign.Semicolon; limits = variable_limits before }

abbrev pub Filling : Expected → Type 0
Filling expected = (thing expected).Fills

abbrev pub filling_pieces : (expected : Expected) → Filling expected → List Piece
filling_pieces expected = (thing expected).pieces

abbrev pub filling_limits : (expected : Expected) → Filling expected → List Position
filling_limits expected = (thing expected).limits

abbrev pub Fillings : List Expected → Type 0
Fillings [] = ⊤
Fillings (first ∷ rest) = Both (Filling first) (Fillings rest)

-- what each of them has, in a row
abbrev pub in_row : {X : Type 0} → ((expected : Expected) → Filling expected → List X) → (stack : List Expected) → Fillings stack → List X
in_row of [] fillings = []
in_row of (first ∷ rest) fillings = of first fillings.first ++ in_row of rest fillings.rest

abbrev pub fillings_pieces : (stack : List Expected) → Fillings stack → List Piece
fillings_pieces stack fillings = in_row filling_pieces stack fillings

abbrev pub fillings_limits : (stack : List Expected) → Fillings stack → List Position
fillings_limits stack fillings = in_row filling_limits stack fillings

-- ---- two lists of things in a row

abbrev pub front_part : (more rest : List Expected) → Fillings (more ++ rest) → Fillings more
front_part [] rest all = tt
front_part (first ∷ more) rest all = all.first ▸ front_part more rest all.rest

abbrev pub back_part : (more rest : List Expected) → Fillings (more ++ rest) → Fillings rest
back_part [] rest all = all
back_part (first ∷ more) rest all = back_part more rest all.rest

pub parts_pieces : (more rest : List Expected) (all : Fillings (more ++ rest)) → fillings_pieces (more ++ rest) all ≡ fillings_pieces more (front_part more rest all) ++ fillings_pieces rest (back_part more rest all)
parts_pieces [] rest all = refl
parts_pieces (first ∷ more) rest all = grind (arith, append_assoc, parts_pieces more rest)

abbrev pub joined : (more rest : List Expected) → Fillings more → Fillings rest → Fillings (more ++ rest)
joined [] rest ahead back = back
joined (first ∷ more) rest ahead back = ahead.first ▸ joined more rest ahead.rest back

pub joined_row : {X : Type 0} (of : (expected : Expected) → Filling expected → List X) (more rest : List Expected) (ahead : Fillings more) (back : Fillings rest)
    → in_row of (more ++ rest) (joined more rest ahead back) ≡ in_row of more ahead ++ in_row of rest back
joined_row of [] rest ahead back = refl
joined_row of (first ∷ more) rest ahead back = grind (arith, append_assoc, joined_row of more rest)

front_joined : (more rest : List Expected) (ahead : Fillings more) (back : Fillings rest) → front_part more rest (joined more rest ahead back) ≡ ahead
front_joined [] rest ahead back = refl
front_joined (first ∷ more) rest ahead back = grind (arith, front_joined more rest)

back_joined : (more rest : List Expected) (ahead : Fillings more) (back : Fillings rest) → back_part more rest (joined more rest ahead back) ≡ back
back_joined [] rest ahead back = refl
back_joined (first ∷ more) rest ahead back = back_joined more rest ahead.rest back

pub parted : (more rest : List Expected) (one two : Fillings more) (three four : Fillings rest) → joined more rest one three ≡ joined more rest two four → (one ≡ two) × (three ≡ four)
parted more rest one two three four same =
    (sym (front_joined more rest one three) ∙ ap (front_part more rest) same ∙ front_joined more rest two four, sym (back_joined more rest one three) ∙ ap (back_part more rest) same ∙ back_joined more rest two four)
