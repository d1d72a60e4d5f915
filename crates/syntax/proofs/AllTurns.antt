-- What a token does with each thing that may come.
use Rattle.std.proofs.Common.{◌≡◌, ℕ, List, [], ◌∷◌, ◌++◌, refl, append_assoc, arith, Option, Some, None, suc}
use Rattle.std.specs.List.{flat_map}
use Rattle.std.proofs.lemmas.List.{append-nil}
use Rattle.terms.specs.declared.key.TheConstants.{MAX_COMPONENTS}
use Rattle.steptree.specs.declared.sheet.TheConstants.{MOST_COLLECTIONS}
use Rattle.syntax.specs.declared.limits.TheConstants.{MOST_BRACES}
use Rattle.syntax.specs.declared.token.Word.{Word}
use Rattle.syntax.specs.declared.token.Word.TheVariants as kept
use Rattle.syntax.specs.declared.token.Symbol.TheVariants as sign
use Rattle.syntax.specs.Tokens.{Lexeme, name, word, symbol, Spot}
use Rattle.syntax.specs.Grammar.{Position, own, assigned, for, no_more, and_then, put_item, put_tag, StepText, Named, Names, Declaration, item_declared, tag_declared, Relation, prescribes}
use Rattle.syntax.specs.Grammar.{reads, puts_item, puts_tag, environment_puts_item, environment_puts_tag, environment_gets, GraphText, no_sums, sums}
use Rattle.syntax.specs.Spelled.{plain, at, named}
use Rattle.syntax.specs.GraphTexts.{step_pieces, graph_pieces}
use Rattle.syntax.specs.Limits.{one_more, name_limits}
use Rattle.syntax.specs.Expected.{Part, reading, writing, statements, nested_brace, put_target, step_rest, look, look_statement_word, declarations, front_named, front_closed, relations, reader}
use Rattle.syntax.specs.Expected.{related, declared_limits, Kind, item, tag, opening, Move, look_relation, Expected, exactly, keyword, a_name, whole, operand, behind_operand, components}
use Rattle.syntax.specs.Expected.{more_components, or_else, front, component_name, behind_component, steps, step_name, parameters, parameter, behind_parameter, variables, step_variable}
use Rattle.syntax.specs.Expected.{behind_variable, never, nested, step_name_limits}
use Rattle.syntax.specs.Statements.{choice_of}
use Rattle.syntax.proofs.Fillings.{Fillings, fillings_pieces, RelationsAndSteps, Target, declares, relates}
use Rattle.syntax.proofs.Fillings.{Front, with_components, closes, front_pieces}
use Rattle.syntax.proofs.Turns.{Turn, takes, skips, fails, Begins, loses, turn_if, turn_if_word, turn_exactly, turn_keyword, turn_name, turn_parameters, turn_behind_parameter, turn_behind_variable}
use Rattle.syntax.proofs.FilledExpressions.{turn_operand, turn_whole, turn_behind}

-- ---- statements

abbrev pub turn_statement_word : (part : Part) (around : ℕ) (it : Word) (place : Position) → Turn (statements part around) (word it, place) (look_statement_word part around it)
turn_statement_word reading around kept.Get place =
    takes [] _ (λ later.
    let key = later.rest.rest.rest in
    and_then (own (record { variable = later.first; item = record { collection = key.first; components = key.rest.first } })) key.rest.rest.rest.rest.first) refl refl
    (λ later. (plain (word kept.Get), refl, simp (append_assoc, append-nil)))
turn_statement_word writing around kept.Put place = takes [] _ (λ later. and_then (own later.first) later.rest.first) refl refl (λ later. (plain (word kept.Put), refl, grind (arith, append-nil)))
turn_statement_word part around kept.If place =
    takes [] _ (λ later.
    let block = later.rest.rest.rest in
    and_then (choice_of part later.rest.first block.first block.rest.first block.rest.rest.rest.first) block.rest.rest.rest.rest.first) refl refl
    (λ later. (plain (word kept.If), refl, grind (arith, append_assoc, append-nil)))
turn_statement_word part around kept.For place =
    takes [] _ (λ later.
    let to = later.rest.rest.rest.rest in
    and_then (for later.first later.rest.rest.first to.first to.rest.first to.rest.rest.first) to.rest.rest.rest.rest.first) refl refl
    (λ later. (plain (word kept.For), refl, grind (arith, append_assoc, append-nil)))
turn_statement_word part around _ place = skips no_more refl refl

abbrev pub turn_statements : (part : Part) (around : ℕ) (lexeme : Lexeme) (place : Position) → Turn (statements part around) (lexeme, place) (look (statements part around) lexeme place)
turn_statements part around (name text) place =
    takes (name_limits (text, place)) _ (λ later. and_then (assigned (text, place) later.rest.first) later.rest.rest.rest.first) refl refl
    (λ later. (at place (name text), (refl, refl), simp (append_assoc, append-nil)))
turn_statements part around (word it) place = turn_statement_word part around it place
turn_statements part around _ place = skips no_more refl refl

abbrev pub turn_brace : (around : ℕ) (lexeme : Lexeme) (place : Position) → Turn (nested_brace around) (lexeme, place) (look (nested_brace around) lexeme place)
turn_brace around (symbol sign.OpenBrace) place = takes (one_more MOST_BRACES around place) [] (λ later. place) refl refl (λ later. (at place (symbol sign.OpenBrace), (refl, refl), refl))
turn_brace around _ place = fails refl

-- what is put, after the word
abbrev pub turn_target : (lexeme : Lexeme) (place : Position) → Turn put_target (lexeme, place) (look put_target lexeme place)
turn_target (symbol sign.OpenBracket) place =
    takes [] _ (λ later. put_item (record { collection = later.first; components = later.rest.first }) later.rest.rest.rest.rest.first) refl refl
    (λ later. (plain (symbol sign.OpenBracket), refl, simp (append_assoc, append-nil)))
turn_target (symbol sign.Less) place =
    takes [] _ (λ later. put_tag (record { collection = later.first; components = later.rest.first })) refl refl (λ later. (plain (symbol sign.Less), refl, simp (append_assoc, append-nil)))
turn_target _ place = fails refl

-- ---- steps

-- a step after its first word, and the steps after it
abbrev pub step_made : (before : ℕ) → Fillings (step_rest before) → StepText
step_made before later =
    let names = later.rest.rest in
    let read = names.rest.rest.rest in
    record { name = later.first; parameters = names.first.parameters; variables = names.first.variables; read = read.first; write = read.rest.rest.rest.rest.first }

abbrev pub steps_behind : (before : ℕ) → Fillings (step_rest before) → List StepText
steps_behind before later = later.rest.rest.rest.rest.rest.rest.rest.rest.rest.rest.rest.rest.first

pub step_spelled : (before : ℕ) (later : Fillings (step_rest before))
    → step_pieces (step_made before later) ++ flat_map step_pieces (steps_behind before later) ≡ plain (word kept.Step) ∷ fillings_pieces (step_rest before) later
step_spelled before later = grind (arith, append_assoc, append-nil)

abbrev pub turn_reader : (lexeme : Lexeme) (place : Position) → Turn reader (lexeme, place) (look reader lexeme place)
turn_reader (symbol sign.OpenRound) place = takes [] _ (λ later. Some later.first) refl refl (λ later. (plain (symbol sign.OpenRound), refl, refl))
turn_reader (word kept.Env) place = takes [] _ (λ later. None) refl refl (λ later. (plain (word kept.Env), refl, refl))
turn_reader _ place = fails refl

abbrev pub turn_related : (lexeme : Lexeme) (place : Position) → Turn related (lexeme, place) (look related lexeme place)
turn_related (symbol sign.OpenBracket) place = takes [] _ (λ later. record { first = item; rest = later.first }) refl refl (λ later. (plain (symbol sign.OpenBracket), refl, refl))
turn_related (symbol sign.Less) place = takes [] _ (λ later. record { first = tag; rest = later.first }) refl refl (λ later. (plain (symbol sign.Less), refl, refl))
turn_related _ place = fails refl

-- ---- relations

abbrev pub put_by_step : Position → Named → Kind → Named → Relation
put_by_step place step item it = puts_item place step it
put_by_step place step tag it = puts_tag place step it

abbrev pub put_by_environment : Position → Kind → Named → Relation
put_by_environment place item it = environment_puts_item place it
put_by_environment place tag it = environment_puts_tag place it

-- a relation that begins with a collection
abbrev pub related_as : (kind : Kind) → Position → Named → Target kind → Relation
related_as item place it None = environment_gets place it
related_as item place it (Some step) = reads place it step
related_as tag place it step = prescribes it step

abbrev pub one_relation : Relation → RelationsAndSteps → RelationsAndSteps
one_relation relation them = record { relations = relation ∷ them.relations; steps = them.steps }

abbrev pub turn_relation : (lexeme : Lexeme) (place : Position) → Turn relations (lexeme, place) (look_relation lexeme)
turn_relation (symbol sign.OpenRound) place =
    takes [] _ (λ later. let it = later.rest.rest.rest in one_relation (put_by_step place later.first it.first.first it.first.rest) it.rest.rest.first) refl refl
    (λ later. (at place (symbol sign.OpenRound), (refl, refl), grind (arith, append-nil)))
turn_relation (word kept.Env) place =
    takes [] _ (λ later. let it = later.rest in one_relation (put_by_environment place it.first.first it.first.rest) it.rest.rest.first) refl refl
    (λ later. (at place (word kept.Env), (refl, refl), grind (arith, append-nil)))
turn_relation (word kept.Step) place =
    takes [] _ (λ later. record { relations = []; steps = step_made 0 later ∷ steps_behind 0 later }) refl refl (λ later. (plain (word kept.Step), refl, step_spelled 0 later))
turn_relation _ place = skips (record { relations = []; steps = [] }) refl refl

abbrev pub turn_relations : (lexeme : Lexeme) (place : Position) → Turn relations (lexeme, place) (look relations lexeme place)
turn_relations (symbol sign.OpenBracket) place =
    takes [] _ (λ later. let it = later.rest.rest.rest in one_relation (related_as item place later.first it.first) it.rest.rest.first) refl refl
    (λ later. (at place (symbol sign.OpenBracket), (refl, refl), grind (arith, append-nil)))
turn_relations (symbol sign.Less) place =
    takes [] _ (λ later. let it = later.rest.rest.rest.rest in one_relation (prescribes later.first it.first) it.rest.rest.rest.first) refl refl
    (λ later. (plain (symbol sign.Less), refl, grind (arith, append-nil)))
turn_relations lexeme place = turn_relation lexeme place

-- ---- declarations

abbrev pub without_declarations : RelationsAndSteps → GraphText
without_declarations them = record { declarations = []; relations = them.relations; steps = them.steps }

abbrev pub declared_as : Kind → Named → Option Names → Declaration
declared_as item it its_components = item_declared it its_components
declared_as tag it its_components = tag_declared it its_components

abbrev pub with_declaration : Declaration → GraphText → GraphText
with_declaration first graph = record { declarations = first ∷ graph.declarations; relations = graph.relations; steps = graph.steps }

abbrev pub graph_of : (kind : Kind) → Position → Named → Front kind → GraphText
graph_of kind place it (with_components names graph) = with_declaration (declared_as kind it (Some names)) graph
graph_of kind place it (closes (declares graph)) = with_declaration (declared_as kind it None) graph
graph_of kind place it (closes (relates target them)) = without_declarations (one_relation (related_as kind place it target) them)

pub opened : (kind : Kind) (place : Position) (it : Named) (rest : Front kind) → Begins (symbol (opening kind), place) (graph_pieces (graph_of kind place it rest)) ((named it ∷ front_pieces kind rest) ++ [])
opened kind place it (with_components names graph) = (plain (symbol (opening kind)), refl, grind (arith, append_assoc, append-nil))
opened kind place it (closes (declares graph)) = (plain (symbol (opening kind)), refl, grind (arith, append_assoc, append-nil))
opened item place it (closes (relates target them)) = (at place (symbol sign.OpenBracket), (refl, refl), grind (arith, append_assoc, append-nil))
opened tag place it (closes (relates step them)) = (plain (symbol sign.Less), refl, grind (arith, append_assoc, append-nil))

abbrev pub as_declarations : {spot : Spot} {move : Move} (items tags : ℕ) → Turn relations spot move → Turn (declarations items tags) spot move
as_declarations {spot} {move} items tags (takes limits more made is may begins) = takes limits more (λ later. without_declarations (made later)) is may begins
as_declarations {spot} {move} items tags (skips empty is none) = skips (without_declarations empty) is none
as_declarations {spot} {move} items tags (fails is) = fails is
as_declarations {spot} {move} items tags (loses place is lost) = absurd lost.1

abbrev pub turn_declarations : (items tags : ℕ) (lexeme : Lexeme) (place : Position) → Turn (declarations items tags) (lexeme, place) (look (declarations items tags) lexeme place)
turn_declarations items tags (symbol sign.OpenBracket) place = takes [] _ (λ later. graph_of item place later.first.first later.first.rest) refl refl (λ later. opened item place later.first.first later.first.rest)
turn_declarations items tags (symbol sign.Less) place = takes [] _ (λ later. graph_of tag place later.first.first later.first.rest) refl refl (λ later. opened tag place later.first.first later.first.rest)
turn_declarations items tags lexeme place = as_declarations items tags (turn_relation lexeme place)

-- ---- the beginnings that declarations and relations share

abbrev pub turn_front_named : (kind : Kind) (items tags : ℕ) (place : Position) (lexeme : Lexeme) (other : Position) → Turn (front_named kind items tags place) (lexeme, other) (look (front_named kind items tags place) lexeme other)
turn_front_named item items tags place (symbol sign.CloseBracket) other = takes [] _ (λ later. closes later.first) refl refl (λ later. (plain (symbol sign.CloseBracket), refl, simp append-nil))
turn_front_named tag items tags place (symbol sign.Greater) other = takes [] _ (λ later. closes later.first) refl refl (λ later. (plain (symbol sign.Greater), refl, simp append-nil))
turn_front_named kind items tags place (symbol sign.Colon) other =
    takes (declared_limits kind items tags place) _ (λ later. with_components later.first later.rest.rest.rest.first) refl refl
    (λ later. (plain (symbol sign.Colon), refl, grind (arith, append_assoc, append-nil)))
turn_front_named _ items tags place _ other = fails refl

abbrev pub turn_front_closed : (kind : Kind) (items tags : ℕ) (place : Position) (lexeme : Lexeme) (other : Position) → Turn (front_closed kind items tags place) (lexeme, other) (look (front_closed kind items tags place) lexeme other)
turn_front_closed item items tags place (symbol sign.Arrow) other =
    takes [] _ (λ later. relates later.first later.rest.rest.first) refl refl (λ later. (plain (symbol sign.Arrow), refl, simp (append_assoc, append-nil)))
turn_front_closed tag items tags place (symbol sign.DoubleColon) other =
    takes [] _ (λ later. relates later.rest.first later.rest.rest.rest.rest.first) refl refl (λ later. (plain (symbol sign.DoubleColon), refl, simp (append_assoc, append-nil)))
turn_front_closed kind items tags place (symbol sign.Semicolon) other =
    takes (declared_limits kind items tags place) _ (λ later. declares later.first) refl refl (λ later. (plain (symbol sign.Semicolon), refl, simp append-nil))
turn_front_closed _ items tags place _ other = fails refl

-- ---- all things

abbrev pub turn : (first : Expected) (lexeme : Lexeme) (place : Position) → Turn first (lexeme, place) (look first lexeme place)
turn (exactly it) lexeme place = turn_exactly it lexeme place
turn (keyword it) lexeme place = turn_keyword it lexeme place
turn a_name lexeme place = turn_name a_name [] [] lexeme place (λ text later. (text, place)) refl (λ text later. refl)
turn (whole comparing) lexeme place = turn_whole comparing lexeme place
turn (operand state) lexeme place = turn_operand state lexeme place
turn (behind_operand state prod) lexeme place = turn_behind state prod lexeme place
turn components lexeme place =
    turn_if components (whole never ∷ more_components ∷ []) place no_sums (λ later. sums later.first later.rest.first) refl refl sign.Colon lexeme (λ later. simp (append_assoc, append-nil))
turn more_components lexeme place =
    turn_if more_components (whole never ∷ more_components ∷ []) place [] (λ later. later.first ∷ later.rest.first) refl refl sign.Comma lexeme (λ later. simp (append_assoc, append-nil))
turn (statements part around) lexeme place = turn_statements part around lexeme place
turn (nested_brace around) lexeme place = turn_brace around lexeme place
turn (or_else part around) lexeme place =
    turn_if_word (or_else part around) (nested part around) place None (λ later. Some (later.first, later.rest.first)) refl refl kept.Else lexeme (λ later. simp (append_assoc, append-nil))
turn put_target lexeme place = turn_target lexeme place
turn (declarations items tags) lexeme place = turn_declarations items tags lexeme place
turn (front kind items tags) lexeme place =
    turn_name (front kind items tags) [] (front_named kind items tags place ∷ []) lexeme place (λ text later. record { first = (text, place); rest = later.first }) refl (λ text later. simp append-nil)
turn (front_named kind items tags named_at) lexeme place = turn_front_named kind items tags named_at lexeme place
turn (front_closed kind items tags named_at) lexeme place = turn_front_closed kind items tags named_at lexeme place
turn (component_name before) lexeme place =
    turn_name (component_name before) (one_more MAX_COMPONENTS before place) (behind_component (suc before) ∷ []) lexeme place (λ text later. record { first = (text, place); more = later.first }) refl
    (λ text later. simp append-nil)
turn (behind_component before) lexeme place =
    turn_if (behind_component before) (component_name before ∷ []) place [] (λ later. later.first.first ∷ later.first.more) refl refl sign.Comma lexeme (λ later. simp (append_assoc, append-nil))
turn relations lexeme place = turn_relations lexeme place
turn reader lexeme place = turn_reader lexeme place
turn related lexeme place = turn_related lexeme place
turn (steps before) lexeme place = turn_if_word (steps before) (step_rest before) place [] (λ later. step_made before later ∷ steps_behind before later) refl refl kept.Step lexeme (λ later. step_spelled before later)
turn (step_name before) lexeme place = turn_name (step_name before) (one_more MOST_COLLECTIONS before place) [] lexeme place (λ text later. (text, place)) refl (λ text later. refl)
turn parameters lexeme place = turn_parameters lexeme place
turn (parameter before) lexeme place =
    turn_name (parameter before) (one_more MAX_COMPONENTS before place ++ step_name_limits before place) (behind_parameter (suc before) ∷ []) lexeme place
    (λ text later. record { parameters = record { first = (text, place); more = later.first.parameters }; variables = later.first.variables }) refl (λ text later. simp (append_assoc, append-nil))
turn (behind_parameter before) lexeme place = turn_behind_parameter before lexeme place
turn (variables before) lexeme place = turn_if_word (variables before) (step_variable before ∷ []) place None (λ later. Some later.first) refl refl kept.Var lexeme (λ later. simp (append_assoc, append-nil))
turn (step_variable before) lexeme place =
    turn_name (step_variable before) (step_name_limits before place) (behind_variable (suc before) ∷ []) lexeme place (λ text later. record { first = (text, place); more = later.first }) refl
    (λ text later. simp (append_assoc, append-nil))
turn (behind_variable before) lexeme place = turn_behind_variable before lexeme place
