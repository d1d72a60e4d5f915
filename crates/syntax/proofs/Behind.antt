-- Which things may stand behind each other among those that may come; only the first can be an expression that has begun.
use Rattle.std.proofs.Common.{◌≡◌, Bool, true, false, if◌then◌else◌, List, [], ◌∷◌, ◌++◌, refl, arith}
use Rattle.syntax.specs.declared.token.Word.TheVariants as kept
use Rattle.syntax.specs.declared.token.Symbol.TheVariants as sign
use Rattle.syntax.specs.Tokens.{Lexeme, word, symbol, unknown}
use Rattle.syntax.specs.Expected.{never, possible, behind_left, Expected, exactly, keyword, whole, operand, behind_operand, components, more_components, statements, nested_brace, or_else, declarations, front, front_named, front_closed}
use Rattle.syntax.specs.Expected.{component_name, behind_component, relations, steps, parameters, parameter, behind_parameter, variables}

-- an expression of which something was read
abbrev pub is_begun : Expected → Bool
is_begun (operand state) = true
is_begun (behind_operand state prod) = true
is_begun (whole (behind_left left how)) = true
is_begun _ = false

abbrev pub is_expression : Expected → Bool
is_expression (operand state) = true
is_expression (behind_operand state prod) = true
is_expression (whole comparing) = true
is_expression _ = false

-- what stands behind a thing
pub data Class : Type 0 where
  anything : Class
  nothing : Class
  a_bracket : Class
  a_brace : Class
  a_statement : Class
  the_word_read : Class
  more_sums : Class
  an_end : Class

abbrev pub class : Expected → Class
class (whole never) = more_sums
class (whole possible) = an_end
class components = a_bracket
class more_components = a_bracket
class (component_name before) = a_bracket
class (behind_component before) = a_bracket
class (statements part around) = a_brace
class (or_else part around) = a_statement
class (declarations items tags) = nothing
class (front kind items tags) = nothing
class (front_named kind items tags at) = nothing
class (front_closed kind items tags at) = nothing
class relations = nothing
class (steps before) = nothing
class parameters = the_word_read
class (parameter before) = the_word_read
class (behind_parameter before) = the_word_read
class (variables before) = the_word_read
class _ = anything

abbrev pub is_one : Class → Expected → Bool
is_one anything _ = true
is_one a_bracket (exactly sign.CloseBracket) = true
is_one a_bracket (exactly sign.Greater) = true
is_one a_brace (exactly sign.CloseBrace) = true
is_one a_statement (statements part around) = true
is_one the_word_read (keyword kept.Read) = true
is_one more_sums more_components = true
is_one an_end (exactly sign.Semicolon) = true
is_one an_end (exactly sign.CloseRound) = true
is_one an_end (exactly sign.DoubleDot) = true
is_one an_end (nested_brace around) = true
is_one _ _ = false

abbrev pub admits : Class → Expected → Bool
admits it second = if is_begun second then false else is_one it second

-- a token with which what stands there may begin
abbrev pub stands : Class → Lexeme → Bool
stands anything _ = true
stands nothing unknown = true
stands a_bracket (symbol sign.CloseBracket) = true
stands a_bracket (symbol sign.Greater) = true
stands a_brace (symbol sign.CloseBrace) = true
stands a_statement (word kept.Else) = false
stands a_statement _ = true
stands the_word_read (word kept.Read) = true
stands more_sums (symbol sign.Comma) = true
stands more_sums (symbol sign.CloseBracket) = true
stands more_sums (symbol sign.Greater) = true
stands an_end (symbol sign.Semicolon) = true
stands an_end (symbol sign.CloseRound) = true
stands an_end (symbol sign.DoubleDot) = true
stands an_end (symbol sign.OpenBrace) = true
stands _ _ = false

-- each of these may stand behind the one before it, and this token behind the last
abbrev pub chain : Lexeme → List Expected → Bool
chain end [] = true
chain end (first ∷ []) = stands (class first) end
chain end (first ∷ second ∷ rest) = if admits (class first) second then chain end (second ∷ rest) else false

-- whatever stands behind a thing of the first class may stand behind one of the second
abbrev stays : Class → Class → Bool
stays _ anything = true
stays nothing nothing = true
stays a_bracket a_bracket = true
stays a_brace a_brace = true
stays a_statement a_statement = true
stays the_word_read the_word_read = true
stays more_sums more_sums = true
stays an_end an_end = true
stays _ _ = false

abbrev is_fresh : Bool → Expected → Bool
is_fresh expression one = if is_begun one then expression else true

-- these may be put in the place of a thing of this class
abbrev pub follows : Bool → Class → List Expected → Bool
follows expression it [] = true
follows expression it (last ∷ []) = if is_fresh expression last then stays it (class last) else false
follows expression it (one ∷ second ∷ more) = if is_fresh expression one then (if admits (class one) second then follows expression it (second ∷ more) else false) else false

-- ---- from one token to the next

pub first_of : (one other : Bool) → (if one then other else false) ≡ true → one ≡ true
first_of one other both = grind arith

pub second_of : (one other : Bool) → (if one then other else false) ≡ true → other ≡ true
second_of one other both = grind arith

both_of : (one other : Bool) → one ≡ true → other ≡ true → (if one then other else false) ≡ true
both_of one other first second = grind arith

admits_any : (begun other : Bool) → (if begun then false else other) ≡ true → (if begun then false else true) ≡ true
admits_any begun other e = grind arith

-- what holds of the first class, and then of `anything`, holds of the second
stays_as : (holds : Class → Bool) (one two : Class) → stays one two ≡ true → (holds one ≡ true → holds anything ≡ true) → holds one ≡ true → holds two ≡ true
stays_as holds one two stay any here = grind arith

pub chain_rest : (end : Lexeme) (first : Expected) (rest : List Expected) → chain end (first ∷ rest) ≡ true → chain end rest ≡ true
chain_rest end first rest chained = grind (arith, second_of)

pub chain_on : (end : Lexeme) (expression : Bool) (first : Expected) (more rest : List Expected) → follows expression (class first) more ≡ true → chain end (first ∷ rest) ≡ true → chain end (more ++ rest) ≡ true
chain_on end expression first [] rest follow chained = chain_rest end first rest chained
chain_on end expression first (last ∷ []) [] follow chained = stays_as (λ (it : Class). stands it end) (class first) (class last) (second_of (is_fresh expression last) (stays (class first) (class last)) follow) (λ here. refl) chained
chain_on end expression first (last ∷ []) (second ∷ rest) follow chained =
    both_of (admits (class last) second) (chain end (second ∷ rest))
    (stays_as (λ (it : Class). admits it second) (class first) (class last) (second_of (is_fresh expression last) (stays (class first) (class last)) follow) (admits_any (is_begun second) (is_one (class first) second))
    (first_of (admits (class first) second) (chain end (second ∷ rest)) chained))
    (second_of (admits (class first) second) (chain end (second ∷ rest)) chained)
chain_on end expression first (one ∷ second ∷ more) rest follow chained =
    let both = second_of (is_fresh expression one) (if admits (class one) second then follows expression (class first) (second ∷ more) else false) follow in
    both_of (admits (class one) second) (chain end (second ∷ more ++ rest)) (first_of (admits (class one) second) (follows expression (class first) (second ∷ more)) both)
    (chain_on end expression first (second ∷ more) rest (second_of (admits (class one) second) (follows expression (class first) (second ∷ more)) both) chained)

-- the first of these was not begun
abbrev pub fresh : List Expected → Bool
fresh [] = true
fresh (first ∷ rest) = if is_begun first then false else true

pub not_begun : (begun : Bool) → (if begun then false else true) ≡ true → begun ≡ false
not_begun begun e = grind arith

pub fresh_rest : (end : Lexeme) (first : Expected) (rest : List Expected) → chain end (first ∷ rest) ≡ true → fresh rest ≡ true
fresh_rest end first rest chained = grind arith

pub fresh_on : (end : Lexeme) (first : Expected) (more rest : List Expected) → follows false (class first) more ≡ true → chain end (first ∷ rest) ≡ true → fresh (more ++ rest) ≡ true
fresh_on end first [] rest follow chained = fresh_rest end first rest chained
fresh_on end first (last ∷ []) rest follow chained = first_of (is_fresh false last) (stays (class first) (class last)) follow
fresh_on end first (one ∷ second ∷ more) rest follow chained = first_of (is_fresh false one) (if admits (class one) second then follows false (class first) (second ∷ more) else false) follow
