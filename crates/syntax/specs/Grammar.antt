-- The grammar of graph texts: its derivations, one constructor for each production. Tokens whose positions matter carry them.
use Rattle.std.specs.Prelude.{ℕ, List, Option}

-- the position of a token in its text
abbrev pub Position : Type 0
Position = ℕ

-- a name and its position
abbrev pub Named : Type 0
Named = List ℕ × Position

-- ---- expressions

pub data Comparison : Type 0 where
  equal : Comparison
  not_equal : Comparison
  less : Comparison
  less_or_equal : Comparison
  greater : Comparison
  greater_or_equal : Comparison

pub data Addition : Type 0 where
  plus : Addition
  minus : Addition

pub data Multiplication : Type 0 where
  times : Multiplication
  over : Multiplication
  modulo : Multiplication

mutual
  -- expr = sum [ comparison sum ]
  pub data Expr : Type 0 where
    sum_alone : Sum → Expr
    compared : Sum → Comparison → Sum → Expr

  -- sum = prod { ( "+" | "-" ) prod }
  pub data Sum : Type 0 where
    prod_alone : Prod → Sum
    added : Sum → Addition → Prod → Sum

  -- prod = unary { ( "*" | "/" | "%" ) unary }
  pub data Prod : Type 0 where
    unary_alone : Unary → Prod
    multiplied : Prod → Multiplication → Unary → Prod

  -- unary = "-" unary | number | name | "(" expr ")", each with the position of its first token
  pub data Unary : Type 0 where
    negated : Position → Unary → Unary
    literal : Position → ℕ → Unary
    variable : Named → Unary
    bracketed : Position → Expr → Unary

-- [ ":" sum { "," sum } ]
pub data Sums : Type 0 where
  no_sums : Sums
  sums : Sum → List Sum → Sums

-- an item, "[" name sums "]", or a tag, "<" name sums ">"
pub record Key : Type 0 where
  pub collection : Named
  pub components : Sums

-- ---- statements

mutual
  -- a statement of a block; B is the type of the statements that only this kind of block has (own):
  -- own | name "=" expr ";" | "if" "(" expr ")" "{" .. "}" [ "else" "{" .. "}" ] | "for" name "in" expr ".." expr "{" .. "}"
  -- each opening brace with its position
  pub data Statement (B : Type 0) : Type 0 where
    own : B → Statement B
    assigned : Named → Expr → Statement B
    if_alone : Expr → Position → Statements B → Statement B
    if_else : Expr → Position → Statements B → Position → Statements B → Statement B
    for : Named → Expr → Expr → Position → Statements B → Statement B

  pub data Statements (B : Type 0) : Type 0 where
    no_more : Statements B
    and_then : Statement B → Statements B → Statements B

-- "get" name "=" item ";"
pub record Get : Type 0 where
  pub variable : Named
  pub item : Key

-- "put" item "=" expr ";" | "put" tag ";"
pub data Put : Type 0 where
  put_item : Key → Expr → Put
  put_tag : Key → Put

-- ---- graphs

-- name { "," name }
pub record Names : Type 0 where
  pub first : Named
  pub more : List Named

-- "[" name [ ":" names ] "]" ";" | "<" name [ ":" names ] ">" ";"
pub data Declaration : Type 0 where
  item_declared : Named → Option Names → Declaration
  tag_declared : Named → Option Names → Declaration

-- all but a prescription carry the position of their first token
pub data Relation : Type 0 where
  -- "<" name ">" "::" "(" name ")" ";"
  prescribes : Named → Named → Relation
  -- "[" name "]" "->" "(" name ")" ";"
  reads : Position → Named → Named → Relation
  -- "(" name ")" "->" "[" name "]" ";" and "(" name ")" "->" "<" name ">" ";"
  puts_item : Position → Named → Named → Relation
  puts_tag : Position → Named → Named → Relation
  -- "env" "->" "[" name "]" ";" and "env" "->" "<" name ">" ";"
  environment_puts_item : Position → Named → Relation
  environment_puts_tag : Position → Named → Relation
  -- "[" name "]" "->" "env" ";"
  environment_gets : Position → Named → Relation

-- "step" name "(" [ names ] ")" "{" [ "var" names ";" ] "read" "{" .. "}" "write" "{" .. "}" "}"
pub record StepText : Type 0 where
  pub name : Named
  pub parameters : Option Names
  pub variables : Option Names
  pub read : Statements Get
  pub write : Statements Put

-- { declaration } { relation } { step }
pub record GraphText : Type 0 where
  pub declarations : List Declaration
  pub relations : List Relation
  pub steps : List StepText
