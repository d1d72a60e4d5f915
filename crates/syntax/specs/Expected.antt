-- What may come next in a graph text: a machine that reads tokens from the left, one at each step, and never looks back.
use Rattle.std.specs.Prelude.{◌≡◌, ℕ, zero, suc, ◌+◌, ◌*◌, ◌==◌, Bool, codes, List, [], ◌∷◌, ◌++◌, length, Option, Some, None, if◌then◌else◌}
use Rattle.terms.specs.declared.key.TheConstants.{MAX_COMPONENTS}
use Rattle.steptree.specs.declared.slot.TheConstants.{MOST_NAMES}
use Rattle.steptree.specs.declared.sheet.TheConstants.{MOST_COLLECTIONS}
use Rattle.syntax.specs.declared.limits.TheConstants.{MOST_BRACKETS, MOST_BRACES}
use Rattle.syntax.specs.declared.token.Word.{Word}
use Rattle.syntax.specs.declared.token.Word.TheVariants as kept
use Rattle.syntax.specs.declared.token.Symbol.{Symbol}
use Rattle.syntax.specs.declared.token.Symbol.TheVariants as sign
use Rattle.syntax.specs.Tokens.{Lexeme, name, number, word, symbol, unknown, Spot}
use Rattle.syntax.specs.Grammar.{Position, Comparison, equal, not_equal, less, less_or_equal, greater, greater_or_equal, Addition, plus, minus, Multiplication, times, over, modulo}
use Rattle.syntax.specs.Grammar.{Expr, sum_alone, compared, Sum, prod_alone, added, Prod, unary_alone, multiplied, Unary, negated, literal, variable, bracketed}
use Rattle.syntax.specs.Limits.{one_more, name_limits, depth_limits, expr_depth}

-- ---- expressions

-- what joins an operand to the next one, or ends it
pub data Joint : Type 0 where
  by_product : Multiplication → Joint
  by_sum : Addition → Joint
  by_comparison : Comparison → Joint
  closes : Joint
  ends : Joint

abbrev pub sign_joint : Symbol → Joint
sign_joint sign.Star = by_product times
sign_joint sign.Slash = by_product over
sign_joint sign.Percent = by_product modulo
sign_joint sign.Plus = by_sum plus
sign_joint sign.Minus = by_sum minus
sign_joint sign.Equal = by_comparison equal
sign_joint sign.NotEqual = by_comparison not_equal
sign_joint sign.Less = by_comparison less
sign_joint sign.LessOrEqual = by_comparison less_or_equal
sign_joint sign.Greater = by_comparison greater
sign_joint sign.GreaterOrEqual = by_comparison greater_or_equal
sign_joint sign.CloseRound = closes
sign_joint _ = ends

abbrev pub joint : Lexeme → Joint
joint (symbol it) = sign_joint it
joint _ = ends

-- what an operand may begin with
pub data Head : Type 0 where
  minus_sign : Head
  open_bracket : Head
  a_number : ℕ → Head
  a_variable : List ℕ → Head
  no_head : Head

abbrev pub sign_head : Symbol → Head
sign_head sign.Minus = minus_sign
sign_head sign.OpenRound = open_bracket
sign_head _ = no_head

abbrev pub head : Lexeme → Head
head (symbol it) = sign_head it
head (number value) = a_number value
head (name text) = a_variable text
head (word it) = no_head
head unknown = no_head

-- whether a comparison may come: `never` in a key's component, outside brackets; otherwise one is `possible`, and after its sign
-- its left operand waits (`behind_left`)
pub data Comparing : Type 0 where
  never : Comparing
  possible : Comparing
  behind_left : Sum → Comparison → Comparing

-- the expression within one bracket, or outside all brackets: the left operands of the comparison, the sum and the product that
-- wait for their right ones, and the minus signs before the operand, the last one first
pub record Level : Type 0 where
  pub comparing : Comparing
  pub sum : Option (Sum × Addition)
  pub product : Option (Prod × Multiplication)
  pub negations : List Position

-- an expression so far: the position of its first token, the first limit that is passed within it, its innermost level, and
-- the levels around it, the inner ones first, each with the position of the bracket that is open in it
pub record Expression : Type 0 where
  pub first : Position
  pub passed : Option Position
  pub level : Level
  pub outer : List (Level × Position)

abbrev pub negated_by : List Position → Unary → Unary
negated_by [] unary = unary
negated_by (position ∷ positions) unary = negated_by positions (negated position unary)

abbrev pub product_of : Option (Prod × Multiplication) → Unary → Prod
product_of None unary = unary_alone unary
product_of (Some waits) unary = multiplied waits.0 waits.1 unary

abbrev pub sum_of : Option (Sum × Addition) → Prod → Sum
sum_of None prod = prod_alone prod
sum_of (Some waits) prod = added waits.0 waits.1 prod

abbrev pub compared_of : Comparing → Sum → Expr
compared_of never sum = sum_alone sum
compared_of possible sum = sum_alone sum
compared_of (behind_left left how) sum = compared left how sum

-- the expression of a level, whose last product is this one
abbrev pub level_expr : Level → Prod → Expr
level_expr level prod = compared_of level.comparing (sum_of level.sum prod)

-- the place that was noted before, or else the first of these
abbrev pub earlier : Option Position → List Position → Option Position
earlier (Some place) places = Some place
earlier None [] = None
earlier None (place ∷ places) = Some place

abbrev pub opened : Comparing → Level
opened comparing = record { comparing = comparing; sum = None; product = None; negations = [] }

-- an expression before its first token
abbrev pub begun : Comparing → Position → Expression
begun comparing place = record { first = place; passed = None; level = opened comparing; outer = [] }

-- ---- what may come

-- the kinds of collections that a text declares, and the parts of a step
pub data Kind : Type 0 where
  item : Kind
  tag : Kind

pub data Part : Type 0 where
  reading : Part
  writing : Part

pub data Expected : Type 0 where
  exactly : Symbol → Expected
  keyword : Word → Expected
  a_name : Expected
  -- an expression from its first token on
  whole : Comparing → Expected
  -- an operand; what may follow one, with the product that ends in it
  operand : Expression → Expected
  behind_operand : Expression → Prod → Expected
  -- [ ":" sum { "," sum } ], and { "," sum }
  components : Expected
  more_components : Expected
  -- the statements of a block, with this number of braces open; its opening brace; what may follow the block of an `if`
  statements : Part → ℕ → Expected
  nested_brace : ℕ → Expected
  or_else : Part → ℕ → Expected
  -- what is put
  put_target : Expected
  -- declarations, relations and steps, with this number of items and of tags before
  declarations : ℕ → ℕ → Expected
  -- after the bracket of a declaration or a relation; after its name, at this place; after the other bracket
  front : Kind → ℕ → ℕ → Expected
  front_named : Kind → ℕ → ℕ → Position → Expected
  front_closed : Kind → ℕ → ℕ → Position → Expected
  -- a component's name, with this number before it, and { "," name } after one
  component_name : ℕ → Expected
  behind_component : ℕ → Expected
  -- relations and steps; what reads an item; what is put
  relations : Expected
  reader : Expected
  related : Expected
  -- steps, with this number before, and the name of one
  steps : ℕ → Expected
  step_name : ℕ → Expected
  -- [ parameters ] ")" "{" [ variables ]; each with this number of names of the step before it
  parameters : Expected
  parameter : ℕ → Expected
  behind_parameter : ℕ → Expected
  variables : ℕ → Expected
  step_variable : ℕ → Expected
  behind_variable : ℕ → Expected

-- what the first expected thing does at a token: it takes the token, and these are expected in its place; it is left out;
-- the token is wrong; a limit is passed at this place
pub data Move : Type 0 where
  taken : List Expected → Move
  left_out : Move
  wrong : Move
  passed : Position → Move

-- the first of these limits, or else this move
abbrev pub within : List Position → Move → Move
within [] move = move
within (place ∷ places) move = passed place

abbrev pub is_taken : Bool → Move
is_taken fits = if fits then taken [] else wrong

-- ---- operands

-- an expression that breaks off: the first limit passed within it, or else the token is wrong
abbrev pub broken_off : Option Position → Move
broken_off (Some place) = passed place
broken_off None = wrong

-- an expression that is whole: too deep, or else the first limit passed within it, or else no limit
abbrev pub finished : Expression → Expr → Move
finished state expr = within (depth_limits (expr_depth expr) state.first) (elim state.passed [ None ↦ left_out | Some place ↦ passed place ])

-- the expression after a minus sign, after an opening bracket, and with these limits passed within it
abbrev pub negating : Expression → Position → Expression
negating state place = record state { level = record state.level { negations = place ∷ state.level.negations } }

abbrev pub bracketing : Expression → Position → Expression
bracketing state place = record {
  first = state.first;
  passed = earlier state.passed (one_more MOST_BRACKETS (length state.outer) place);
  level = opened possible;
  outer = (state.level, place) ∷ state.outer;
}

abbrev pub passing : Expression → List Position → Expression
passing state places = record state { passed = earlier state.passed places }

-- the expression after a product; after the sign of a product, of a sum and of a comparison; and outside its innermost bracket
abbrev pub without_product : Expression → Expression
without_product state = record state { level = record state.level { product = None; negations = [] } }

abbrev pub awaiting_product : Expression → Prod → Multiplication → Expression
awaiting_product state prod how = record state { level = record state.level { product = Some (prod, how) } }

abbrev pub awaiting_sum : Expression → Prod → Addition → Expression
awaiting_sum state prod how = record state { level = record state.level { sum = Some (sum_of state.level.sum prod, how) } }

abbrev pub awaiting_comparison : Expression → Prod → Comparison → Expression
awaiting_comparison state prod how = record state { level = record state.level { comparing = behind_left (sum_of state.level.sum prod) how; sum = None } }

abbrev pub closed : Expression → Level → List (Level × Position) → Expression
closed state level outer = record state { level = level; outer = outer }

-- after a number, a name or a bracket
abbrev pub product_behind : Expression → Unary → Prod
product_behind state unary = product_of state.level.product (negated_by state.level.negations unary)

abbrev pub read_operand : Expression → Unary → Move
read_operand state unary = taken (behind_operand (without_product state) (product_behind state unary) ∷ [])

abbrev pub awaits : Expression → Move
awaits state = taken (operand state ∷ [])

abbrev pub look_operand : Expression → Position → Head → Move
look_operand state place minus_sign = awaits (negating state place)
look_operand state place open_bracket = awaits (bracketing state place)
look_operand state place (a_number value) = read_operand state (literal place value)
look_operand state place (a_variable text) = read_operand (passing state (name_limits (text, place))) (variable (text, place))
look_operand state place no_head = broken_off state.passed

-- after the last operand of its level
abbrev pub look_end : Expression → List (Level × Position) → Prod → Move
look_end state [] prod = finished state (level_expr state.level prod)
look_end state (around ∷ outer) prod = broken_off state.passed

abbrev pub look_close : Expression → List (Level × Position) → Prod → Move
look_close state [] prod = finished state (level_expr state.level prod)
look_close state (around ∷ outer) prod = read_operand (closed state around.0 outer) (bracketed around.1 (level_expr state.level prod))

abbrev pub look_comparison : Expression → Comparing → Prod → Comparison → Move
look_comparison state possible prod how = awaits (awaiting_comparison state prod how)
look_comparison state never prod how = look_end state state.outer prod
look_comparison state (behind_left left other) prod how = look_end state state.outer prod

abbrev pub look_behind : Expression → Prod → Joint → Move
look_behind state prod (by_product how) = awaits (awaiting_product state prod how)
look_behind state prod (by_sum how) = awaits (awaiting_sum state prod how)
look_behind state prod (by_comparison how) = look_comparison state state.level.comparing prod how
look_behind state prod closes = look_close state state.outer prod
look_behind state prod ends = look_end state state.outer prod

-- ---- the tables

-- each sign has its number
abbrev pub sign_number : Symbol → ℕ
sign_number sign.OpenBracket = 0
sign_number sign.CloseBracket = 1
sign_number sign.OpenRound = 2
sign_number sign.CloseRound = 3
sign_number sign.Less = 4
sign_number sign.Greater = 5
sign_number sign.OpenBrace = 6
sign_number sign.CloseBrace = 7
sign_number sign.Colon = 8
sign_number sign.Semicolon = 9
sign_number sign.Comma = 10
sign_number sign.Assign = 11
sign_number sign.Plus = 12
sign_number sign.Minus = 13
sign_number sign.Star = 14
sign_number sign.Slash = 15
sign_number sign.Percent = 16
sign_number sign.DoubleColon = 17
sign_number sign.Arrow = 18
sign_number sign.DoubleDot = 19
sign_number sign.Equal = 20
sign_number sign.NotEqual = 21
sign_number sign.LessOrEqual = 22
sign_number sign.GreaterOrEqual = 23

abbrev pub word_number : Word → ℕ
word_number kept.Env = 0
word_number kept.Step = 1
word_number kept.Var = 2
word_number kept.Read = 3
word_number kept.Write = 4
word_number kept.Get = 5
word_number kept.Put = 6
word_number kept.If = 7
word_number kept.Else = 8
word_number kept.For = 9
word_number kept.In = 10

abbrev pub look_sign : Symbol → Lexeme → Move
look_sign it (symbol other) = is_taken (sign_number it == sign_number other)
look_sign it _ = wrong

abbrev pub look_word : Word → Lexeme → Move
look_word it (word other) = is_taken (word_number it == word_number other)
look_word it _ = wrong

-- a name with these limits, and then these
abbrev pub look_name : Lexeme → Position → List Position → List Expected → Move
look_name (name text) place limits more = within (name_limits (text, place) ++ limits) (taken more)
look_name _ place limits more = wrong

-- this sign and then these, or left out
abbrev pub look_if : Symbol → Lexeme → List Expected → Move
look_if it (symbol other) more = if sign_number it == sign_number other then taken more else left_out
look_if it _ more = left_out

abbrev pub look_if_word : Word → Lexeme → List Expected → Move
look_if_word it (word other) more = if word_number it == word_number other then taken more else left_out
look_if_word it _ more = left_out

abbrev pub opening : Kind → Symbol
opening item = sign.OpenBracket
opening tag = sign.Less

abbrev pub closing : Kind → Symbol
closing item = sign.CloseBracket
closing tag = sign.Greater

-- after the opening bracket of a key
abbrev pub key_rest : Kind → List Expected
key_rest kind = a_name ∷ components ∷ exactly (closing kind) ∷ []

abbrev pub get_rest : List Expected
get_rest = a_name ∷ exactly sign.Assign ∷ exactly sign.OpenBracket ∷ key_rest item ++ exactly sign.Semicolon ∷ []

-- a block within a block that has `around` braces around it
abbrev pub nested : Part → ℕ → List Expected
nested part around = nested_brace around ∷ statements part (suc around) ∷ exactly sign.CloseBrace ∷ []

abbrev pub look_statement_word : Part → ℕ → Word → Move
look_statement_word reading around kept.Get = taken (get_rest ++ statements reading around ∷ [])
look_statement_word writing around kept.Put = taken (put_target ∷ statements writing around ∷ [])
look_statement_word part around kept.If =
    taken (exactly sign.OpenRound ∷ whole possible ∷ exactly sign.CloseRound ∷ nested part around ++ or_else part around ∷ statements part around ∷ [])
look_statement_word part around kept.For =
    taken (a_name ∷ keyword kept.In ∷ whole possible ∷ exactly sign.DoubleDot ∷ whole possible ∷ nested part around ++ statements part around ∷ [])
look_statement_word part around _ = left_out

abbrev pub look_statement : Part → ℕ → Lexeme → Position → Move
look_statement part around (name text) place =
    within (name_limits (text, place)) (taken (exactly sign.Assign ∷ whole possible ∷ exactly sign.Semicolon ∷ statements part around ∷ []))
look_statement part around (word it) place = look_statement_word part around it
look_statement part around _ place = left_out

abbrev pub look_nested_brace : ℕ → Lexeme → Position → Move
look_nested_brace around (symbol sign.OpenBrace) place = within (one_more MOST_BRACES around place) (taken [])
look_nested_brace around _ place = wrong

-- after `put [`
abbrev pub item_rest : List Expected
item_rest = key_rest item ++ exactly sign.Assign ∷ whole possible ∷ exactly sign.Semicolon ∷ []

-- after `put <`
abbrev pub tag_rest : List Expected
tag_rest = key_rest tag ++ exactly sign.Semicolon ∷ []

abbrev pub look_put_target : Lexeme → Move
look_put_target (symbol sign.OpenBracket) = taken item_rest
look_put_target (symbol sign.Less) = taken tag_rest
look_put_target _ = wrong

-- a step from its word `read` on; and a step after its word `step`, with `before` steps before it
abbrev pub step_body : List Expected
step_body = keyword kept.Read ∷ exactly sign.OpenBrace ∷ statements reading 0 ∷ exactly sign.CloseBrace
    ∷ keyword kept.Write ∷ exactly sign.OpenBrace ∷ statements writing 0 ∷ exactly sign.CloseBrace ∷ exactly sign.CloseBrace ∷ []

abbrev pub step_rest : ℕ → List Expected
step_rest before = step_name before ∷ exactly sign.OpenRound ∷ parameters ∷ step_body ++ steps (suc before) ∷ []

abbrev pub round_rest : List Expected
round_rest = a_name ∷ exactly sign.CloseRound ∷ []

abbrev pub semicolon_relations : List Expected
semicolon_relations = exactly sign.Semicolon ∷ relations ∷ []

-- a relation or a step whose first token begins no declaration
abbrev pub look_relation : Lexeme → Move
look_relation (symbol sign.OpenRound) = taken (round_rest ++ exactly sign.Arrow ∷ related ∷ semicolon_relations)
look_relation (word kept.Env) = taken (exactly sign.Arrow ∷ related ∷ semicolon_relations)
look_relation (word kept.Step) = taken (step_rest 0)
look_relation _ = left_out

abbrev pub look_declarations : ℕ → ℕ → Lexeme → Move
look_declarations items tags (symbol sign.OpenBracket) = taken (front item items tags ∷ [])
look_declarations items tags (symbol sign.Less) = taken (front tag items tags ∷ [])
look_declarations items tags lexeme = look_relation lexeme

abbrev pub prescribed_rest : List Expected
prescribed_rest = exactly sign.OpenRound ∷ round_rest ++ semicolon_relations

abbrev pub look_relations : Lexeme → Move
look_relations (symbol sign.OpenBracket) = taken (a_name ∷ exactly sign.CloseBracket ∷ exactly sign.Arrow ∷ reader ∷ semicolon_relations)
look_relations (symbol sign.Less) = taken (a_name ∷ exactly sign.Greater ∷ exactly sign.DoubleColon ∷ prescribed_rest)
look_relations lexeme = look_relation lexeme

-- one more declaration, of a collection named at this place
abbrev pub declared_limits : Kind → ℕ → ℕ → Position → List Position
declared_limits item items tags at = one_more MOST_COLLECTIONS items at
declared_limits tag items tags at = one_more MOST_COLLECTIONS tags at

abbrev pub declared : Kind → ℕ → ℕ → Expected
declared item items tags = declarations (suc items) tags
declared tag items tags = declarations items (suc tags)

abbrev pub look_front_named : Kind → ℕ → ℕ → Position → Lexeme → Move
look_front_named kind items tags at (symbol sign.Colon) =
    within (declared_limits kind items tags at) (taken (component_name 0 ∷ exactly (closing kind) ∷ exactly sign.Semicolon ∷ declared kind items tags ∷ []))
look_front_named item items tags at (symbol sign.CloseBracket) = taken (front_closed item items tags at ∷ [])
look_front_named tag items tags at (symbol sign.Greater) = taken (front_closed tag items tags at ∷ [])
look_front_named kind items tags at _ = wrong

abbrev pub look_front_closed : Kind → ℕ → ℕ → Position → Lexeme → Move
look_front_closed kind items tags at (symbol sign.Semicolon) = within (declared_limits kind items tags at) (taken (declared kind items tags ∷ []))
look_front_closed item items tags at (symbol sign.Arrow) = taken (reader ∷ semicolon_relations)
look_front_closed tag items tags at (symbol sign.DoubleColon) = taken prescribed_rest
look_front_closed kind items tags at _ = wrong

abbrev pub look_reader : Lexeme → Move
look_reader (symbol sign.OpenRound) = taken round_rest
look_reader (word kept.Env) = taken []
look_reader _ = wrong

abbrev pub look_related : Lexeme → Move
look_related (symbol sign.OpenBracket) = taken (a_name ∷ exactly sign.CloseBracket ∷ [])
look_related (symbol sign.Less) = taken (a_name ∷ exactly sign.Greater ∷ [])
look_related _ = wrong

-- a parameter or a variable of a step, with `before` names of the step before it
abbrev pub step_name_limits : ℕ → Position → List Position
step_name_limits before place = one_more MOST_NAMES before place

abbrev pub look_parameters : Lexeme → Position → Move
look_parameters (name text) place = look_name (name text) place (one_more MAX_COMPONENTS 0 place ++ step_name_limits 0 place) (behind_parameter 1 ∷ [])
look_parameters (symbol sign.CloseRound) place = taken (exactly sign.OpenBrace ∷ variables 0 ∷ [])
look_parameters _ place = wrong

abbrev pub look_behind_parameter : ℕ → Lexeme → Move
look_behind_parameter before (symbol sign.Comma) = taken (parameter before ∷ [])
look_behind_parameter before (symbol sign.CloseRound) = taken (exactly sign.OpenBrace ∷ variables before ∷ [])
look_behind_parameter before _ = wrong

abbrev pub look_behind_variable : ℕ → Lexeme → Move
look_behind_variable before (symbol sign.Comma) = taken (step_variable before ∷ [])
look_behind_variable before (symbol sign.Semicolon) = taken []
look_behind_variable before _ = wrong

abbrev pub look : Expected → Lexeme → Position → Move
look (exactly it) lexeme place = look_sign it lexeme
look (keyword it) lexeme place = look_word it lexeme
look a_name lexeme place = look_name lexeme place [] []
look (whole comparing) lexeme place = look_operand (begun comparing place) place (head lexeme)
look (operand state) lexeme place = look_operand state place (head lexeme)
look (behind_operand state prod) lexeme place = look_behind state prod (joint lexeme)
look components lexeme place = look_if sign.Colon lexeme (whole never ∷ more_components ∷ [])
look more_components lexeme place = look_if sign.Comma lexeme (whole never ∷ more_components ∷ [])
look (statements part around) lexeme place = look_statement part around lexeme place
look (nested_brace around) lexeme place = look_nested_brace around lexeme place
look (or_else part around) lexeme place = look_if_word kept.Else lexeme (nested part around)
look put_target lexeme place = look_put_target lexeme
look (declarations items tags) lexeme place = look_declarations items tags lexeme
look (front kind items tags) lexeme place = look_name lexeme place [] (front_named kind items tags place ∷ [])
look (front_named kind items tags at) lexeme place = look_front_named kind items tags at lexeme
look (front_closed kind items tags at) lexeme place = look_front_closed kind items tags at lexeme
look (component_name before) lexeme place = look_name lexeme place (one_more MAX_COMPONENTS before place) (behind_component (suc before) ∷ [])
look (behind_component before) lexeme place = look_if sign.Comma lexeme (component_name before ∷ [])
look relations lexeme place = look_relations lexeme
look reader lexeme place = look_reader lexeme
look related lexeme place = look_related lexeme
look (steps before) lexeme place = look_if_word kept.Step lexeme (step_rest before)
look (step_name before) lexeme place = look_name lexeme place (one_more MOST_COLLECTIONS before place) []
look parameters lexeme place = look_parameters lexeme place
look (parameter before) lexeme place = look_name lexeme place (one_more MAX_COMPONENTS before place ++ step_name_limits before place) (behind_parameter (suc before) ∷ [])
look (behind_parameter before) lexeme place = look_behind_parameter before lexeme
look (variables before) lexeme place = look_if_word kept.Var lexeme (step_variable before ∷ [])
look (step_variable before) lexeme place = look_name lexeme place (step_name_limits before place) (behind_variable (suc before) ∷ [])
look (behind_variable before) lexeme place = look_behind_variable before lexeme

-- ---- the machine

-- what the machine does at a token
pub data Next : Type 0 where
  on : List Expected → Next
  nothing_left : Next
  at_fault : Next
  limit_passed : Position → Next

abbrev pub met : Move → List Expected → Next → Next
met (taken more) rest without = on (more ++ rest)
met left_out rest without = without
met wrong rest without = at_fault
met (passed place) rest without = limit_passed place

abbrev pub next : List Expected → Spot → Next
next [] spot = nothing_left
next (first ∷ rest) spot = met (look first spot.0 spot.1) rest (next rest spot)

pub data Verdict : Type 0 where
  accepted : Verdict
  -- no graph text goes on with the first of these tokens, or ends here if there are none
  syntax : List Spot → Verdict
  -- a limit is passed at this place
  too_large : Position → Verdict

-- at the end of the tokens, where `unknown` stands for no token
abbrev pub ended : Next → Verdict
ended (on stack) = syntax []
ended nothing_left = accepted
ended at_fault = syntax []
ended (limit_passed place) = too_large place

abbrev pub followed : Next → List Spot → (List Expected → Verdict) → Verdict
followed (on stack) here later = later stack
followed nothing_left here later = syntax here
followed at_fault here later = syntax here
followed (limit_passed place) here later = too_large place

-- the verdict on tokens where these are expected, the first of them first
abbrev pub run : List Expected → List Spot → Verdict
run stack [] = ended (next stack (unknown, 0))
run stack (spot ∷ spots) = followed (next stack spot) (spot ∷ spots) (λ after. run after spots)

-- at the beginning of a graph text
abbrev pub graph_expected : List Expected
graph_expected = declarations 0 0 ∷ []

-- this number of names from this place on, each followed by a comma and a blank
abbrev pub names_with_commas : ℕ → Position → List Spot
names_with_commas zero place = []
names_with_commas (suc count) place = (name (codes "i"), place) ∷ (symbol sign.Comma, place + 1) ∷ names_with_commas count (place + 3)

-- `[x: i];` is accepted, `[x` ends too early, `[x: 1` breaks off at the number, and after `[x: ` one name more than a key has components is one too many
abbrev pub ExpectedExample : Type 0
ExpectedExample = (run graph_expected ((symbol sign.OpenBracket, 0) ∷ (name (codes "x"), 1) ∷ (symbol sign.Colon, 2) ∷ (name (codes "i"), 4) ∷ (symbol sign.CloseBracket, 5) ∷ (symbol sign.Semicolon, 6) ∷ []) ≡ accepted)
    × (run graph_expected ((symbol sign.OpenBracket, 0) ∷ (name (codes "x"), 1) ∷ []) ≡ syntax [])
    × (run graph_expected ((symbol sign.OpenBracket, 0) ∷ (name (codes "x"), 1) ∷ (symbol sign.Colon, 2) ∷ (number 1, 4) ∷ []) ≡ syntax ((number 1, 4) ∷ []))
    × (run graph_expected ((symbol sign.OpenBracket, 0) ∷ (name (codes "x"), 1) ∷ (symbol sign.Colon, 2) ∷ names_with_commas MAX_COMPONENTS 4 ++ (name (codes "i"), 4 + 3 * MAX_COMPONENTS) ∷ [])
    ≡ too_large (4 + 3 * MAX_COMPONENTS))
