-- The places at which a graph text passes a limit, computed from its derivation.
use Rattle.std.specs.Prelude.{ℕ, suc, max, nat_lt, List, [], ◌∷◌, ◌++◌, length, map, drop, if◌then◌else◌}
use Rattle.std.specs.List.{flat_map}
use Rattle.syntax.specs.declared.limits.TheConstants.{MOST_NAME_BYTES, MOST_DEPTH, MOST_BRACKETS, MOST_BRACES}
use Rattle.syntax.specs.Grammar.{Position, Named, Expr, sum_alone, compared, Sum, prod_alone, added, Prod, unary_alone, multiplied, Unary, negated, literal, variable, bracketed, Sums, no_sums, sums, Key, Statement, own, assigned, if_alone, if_else, for, Statements, no_more, and_then}

-- one more at `place`, with `before` of them before it, where at most `most` may be
abbrev pub one_more : ℕ → ℕ → Position → List Position
one_more most before place = if nat_lt before most then [] else place ∷ []

-- a name of too many bytes
abbrev pub name_limits : Named → List Position
name_limits it = if nat_lt MOST_NAME_BYTES (length it.0) then it.1 ∷ [] else []

-- the positions of the names after the first `most` ones
abbrev pub names_behind : ℕ → List Named → List Position
names_behind most names = map (λ it. it.1) (drop most names)

-- ---- expressions

-- a number or a name has the depth 1, an operation one more than the deeper of its operands; brackets add none
abbrev mutual
  pub expr_depth : Expr → ℕ
  expr_depth (sum_alone sum) = sum_depth sum
  expr_depth (compared left how right) = suc (max (sum_depth left) (sum_depth right))

  pub sum_depth : Sum → ℕ
  sum_depth (prod_alone prod) = prod_depth prod
  sum_depth (added left how right) = suc (max (sum_depth left) (prod_depth right))

  pub prod_depth : Prod → ℕ
  prod_depth (unary_alone unary) = unary_depth unary
  prod_depth (multiplied left how right) = suc (max (prod_depth left) (unary_depth right))

  pub unary_depth : Unary → ℕ
  unary_depth (negated position unary) = suc (unary_depth unary)
  unary_depth (literal position value) = 1
  unary_depth (variable it) = 1
  unary_depth (bracketed position expr) = expr_depth expr

-- the position of the first token
abbrev pub unary_first : Unary → Position
unary_first (negated position unary) = position
unary_first (literal position value) = position
unary_first (variable it) = it.1
unary_first (bracketed position expr) = position

abbrev pub prod_first : Prod → Position
prod_first (unary_alone unary) = unary_first unary
prod_first (multiplied left how right) = prod_first left

abbrev pub sum_first : Sum → Position
sum_first (prod_alone prod) = prod_first prod
sum_first (added left how right) = sum_first left

abbrev pub expr_first : Expr → Position
expr_first (sum_alone sum) = sum_first sum
expr_first (compared left how right) = sum_first left

-- limits passed at names, and at brackets, where `around` brackets are open already
abbrev mutual
  pub expr_within : ℕ → Expr → List Position
  expr_within around (sum_alone sum) = sum_within around sum
  expr_within around (compared left how right) = sum_within around left ++ sum_within around right

  pub sum_within : ℕ → Sum → List Position
  sum_within around (prod_alone prod) = prod_within around prod
  sum_within around (added left how right) = sum_within around left ++ prod_within around right

  pub prod_within : ℕ → Prod → List Position
  prod_within around (unary_alone unary) = unary_within around unary
  prod_within around (multiplied left how right) = prod_within around left ++ unary_within around right

  pub unary_within : ℕ → Unary → List Position
  unary_within around (negated position unary) = unary_within around unary
  unary_within around (literal position value) = []
  unary_within around (variable it) = name_limits it
  unary_within around (bracketed position expr) = one_more MOST_BRACKETS around position ++ expr_within (suc around) expr

-- an expression that is too deep, at its first token
abbrev pub depth_limits : ℕ → Position → List Position
depth_limits depth first = if nat_lt MOST_DEPTH depth then first ∷ [] else []

-- a whole expression: that of a statement, and each component of a key
abbrev pub expr_limits : Expr → List Position
expr_limits expr = depth_limits (expr_depth expr) (expr_first expr) ++ expr_within 0 expr

abbrev pub sum_limits : Sum → List Position
sum_limits sum = depth_limits (sum_depth sum) (sum_first sum) ++ sum_within 0 sum

abbrev pub sums_limits : Sums → List Position
sums_limits no_sums = []
sums_limits (sums first more) = sum_limits first ++ flat_map sum_limits more

abbrev pub key_limits : Key → List Position
key_limits key = name_limits key.collection ++ sums_limits key.components

-- ---- statements

module _ {B : Type 0} (own_limits : B → List Position) where
  -- where `around` braces are open already within the block of the step
  abbrev mutual
    pub statement_limits : ℕ → Statement B → List Position
    statement_limits around (own it) = own_limits it
    statement_limits around (assigned it expr) = name_limits it ++ expr_limits expr
    statement_limits around (if_alone condition brace first) = expr_limits condition ++ one_more MOST_BRACES around brace ++ statements_limits (suc around) first
    statement_limits around (if_else condition brace first other second) =
        expr_limits condition ++ one_more MOST_BRACES around brace ++ statements_limits (suc around) first
        ++ one_more MOST_BRACES around other ++ statements_limits (suc around) second
    statement_limits around (for it from to brace block) =
        name_limits it ++ expr_limits from ++ expr_limits to ++ one_more MOST_BRACES around brace ++ statements_limits (suc around) block

    pub statements_limits : ℕ → Statements B → List Position
    statements_limits around no_more = []
    statements_limits around (and_then first rest) = statement_limits around first ++ statements_limits around rest
