-- Blocks that are read, statement by statement.
use Rattle.std.specs.Prelude.{◌≡◌, ℕ, suc, List, [], ◌∷◌, ◌++◌, Option, Some, None}
use Rattle.std.specs.List.{flat_map}
use Rattle.steptree.specs.Tree.{NamedExpression, End}
use Rattle.steptree.specs.Simple.{NamedSimple, NamedBlock}
use Rattle.steptree.specs.SeenBlocks.{NamedStatement, stated}
use Rattle.syntax.specs.declared.limits.TheConstants.{MOST_BRACES}
use Rattle.syntax.specs.declared.part.Part.{Part as Told}
use Rattle.syntax.specs.declared.part.Part.TheVariants as told
use Rattle.syntax.specs.declared.part.Beginning.{Beginning}
use Rattle.syntax.specs.declared.part.Beginning.TheVariants as beginning
use Rattle.syntax.specs.declared.token.Word.{Word}
use Rattle.syntax.specs.declared.token.Word.TheVariants as kept
use Rattle.syntax.specs.declared.token.Symbol.TheVariants as sign
use Rattle.syntax.specs.Tokens.{Lexeme, name, word, Spot}
use Rattle.syntax.specs.Grammar.{Position, Expr, Statement, if_alone, if_else, Statements, no_more, and_then, Get, Put}
use Rattle.syntax.specs.Limits.{one_more, expr_limits, statement_limits, statements_limits}
use Rattle.syntax.specs.OwnStatements.{get_limits, put_limits, get_pieces, put_pieces, IsGet, IsPut}
use Rattle.syntax.specs.Spelled.{Piece, a_sign, a_word, sign_at, in_braces_at, expr_pieces, statement_pieces, statements_pieces}
use Rattle.syntax.specs.Tree.{IsExpr, IsStatement, AreStatements, AreAll}
use Rattle.syntax.specs.Expected.{Part, reading, writing, Expected, exactly, keyword, a_name, whole, possible, statements, nested_brace, nested, or_else, put_target, get_rest, left_out, look_statement}
use Rattle.syntax.specs.Blocks.{assignment_rest}
use Rattle.syntax.specs.Parsed.{Reads}

-- ---- the parts of a step

-- the part that the parser's value stands for
abbrev pub part_of : Told → Part
part_of told.Reading = reading
part_of told.Writing = writing

-- the word that begins a part
abbrev pub part_word : Part → Word
part_word reading = kept.Read
part_word writing = kept.Write

-- the statements that only this part has
abbrev pub Own : Part → Type 0
Own reading = Get
Own writing = Put

-- the word that they begin with, and what may come after it
abbrev pub own_word : Part → Word
own_word reading = kept.Get
own_word writing = kept.Put

abbrev pub own_rest : Part → List Expected
own_rest reading = get_rest
own_rest writing = put_target ∷ []

-- what one of them spells, the limits that are passed in it, and its statement with names
abbrev pub own_pieces : (part : Part) → Own part → List Piece
own_pieces reading = get_pieces
own_pieces writing = put_pieces

abbrev pub own_limits : (part : Part) → Own part → List Position
own_limits reading = get_limits
own_limits writing = put_limits

abbrev pub is_own : (part : Part) → Own part → NamedSimple → Type 0
is_own reading = IsGet
is_own writing = IsPut

-- ---- one statement

-- what a statement begins with, at a token
abbrev pub Begins : Part → Lexeme → Beginning → Type 0
Begins part lexeme beginning.Assignment = (text : List ℕ) × (lexeme ≡ name text)
Begins part lexeme beginning.Choice = lexeme ≡ word kept.If
Begins part lexeme beginning.Repetition = lexeme ≡ word kept.For
Begins part lexeme beginning.Own = lexeme ≡ word (own_word part)
Begins part lexeme beginning.Other = (around : ℕ) (place : Position) → look_statement part around lexeme place ≡ left_out

-- what a condition is: an expression in brackets
abbrev pub condition_expected : List Expected
condition_expected = exactly sign.OpenRound ∷ whole possible ∷ exactly sign.CloseRound ∷ []

-- what a choice is: its word, a condition, a block, and one more block if there is an `else`
abbrev pub choice_expected : Part → ℕ → List Expected
choice_expected part around = keyword kept.If ∷ condition_expected ++ nested part around ++ or_else part around ∷ []

-- what a repetition is: its word, a variable, two bounds and a block
abbrev pub repetition_expected : Part → ℕ → List Expected
repetition_expected part around = keyword kept.For ∷ a_name ∷ keyword kept.In ∷ whole possible ∷ exactly sign.DoubleDot ∷ whole possible ∷ nested part around

-- what a statement that only this part has is: its word, and what may come after it
abbrev pub own_expected : Part → List Expected
own_expected part = keyword (own_word part) ∷ own_rest part

-- what an assignment is: a name, and what may come after it
abbrev pub assignment_expected : List Expected
assignment_expected = a_name ∷ assignment_rest

-- the statement of the program is this one of the grammar, whatever follows it
abbrev pub IsStatementOf : (part : Part) → Statement (Own part) → NamedStatement → Type 0
IsStatementOf part statement tree = (rest : NamedBlock) → IsStatement (is_own part) statement (stated tree rest) (λ other. other ≡ rest)

-- one statement, with `around` braces around it
pub record IsStatementRead (part : Part) (around : ℕ) (expected more : List Expected) (tree : NamedStatement) (before after : List Spot) : Type 0 where
  pub statement : Statement (Own part)
  pub reads : Reads expected more (statement_pieces (own_pieces part) statement) before after
  pub is : IsStatementOf part statement tree
  pub within : statement_limits (own_limits part) around statement ≡ []

-- an assignment, which each part has, a statement that only this part has, a choice and a repetition
abbrev pub IsAssignmentRead : NamedStatement → List Spot → List Spot → Type 0
IsAssignmentRead tree before after = (part : Part) (around : ℕ) → IsStatementRead part around assignment_expected [] tree before after

abbrev pub IsOwnRead : Part → NamedStatement → List Spot → List Spot → Type 0
IsOwnRead part tree before after = (around : ℕ) → IsStatementRead part around (own_expected part) [] tree before after

abbrev pub IsChoiceRead : Part → ℕ → NamedStatement → List Spot → List Spot → Type 0
IsChoiceRead part around = IsStatementRead part around (choice_expected part around) []

abbrev pub IsRepetitionRead : Part → ℕ → NamedStatement → List Spot → List Spot → Type 0
IsRepetitionRead part around = IsStatementRead part around (repetition_expected part around) []

-- ---- parts of a statement

-- an expression in brackets
pub record IsConditionRead (tree : NamedExpression) (before after : List Spot) : Type 0 where
  pub expr : Expr
  pub reads : Reads condition_expected [] (a_sign sign.OpenRound ++ expr_pieces expr ++ a_sign sign.CloseRound) before after
  pub is : IsExpr expr tree
  pub within : expr_limits expr ≡ []

-- an opening brace, with `around` braces around it
pub record IsBraceRead (around : ℕ) (before after : List Spot) : Type 0 where
  pub position : Position
  pub reads : Reads (nested_brace around ∷ []) [] (sign_at position sign.OpenBrace) before after
  pub within : one_more MOST_BRACES around position ≡ []

-- a block in braces
pub record IsNestedRead (part : Part) (around : ℕ) (tree : NamedBlock) (before after : List Spot) : Type 0 where
  pub position : Position
  pub block : Statements (Own part)
  pub reads : Reads (nested part around) [] (in_braces_at position (statements_pieces (own_pieces part) block)) before after
  pub are : AreStatements (is_own part) block tree
  pub within : one_more MOST_BRACES around position ++ statements_limits (own_limits part) (suc around) block ≡ []

-- the second block of a choice, if it has one, with the position of its brace
abbrev pub Second : Part → Type 0
Second part = Option (Position × Statements (Own part))

-- what it spells, the limits that are passed in it, and its tree, an empty one if there is no second block
abbrev pub second_pieces : (part : Part) → Second part → List Piece
second_pieces part None = []
second_pieces part (Some second) = a_word kept.Else ++ in_braces_at second.0 (statements_pieces (own_pieces part) second.1)

abbrev pub second_limits : (part : Part) → ℕ → Second part → List Position
second_limits part around None = []
second_limits part around (Some second) = one_more MOST_BRACES around second.0 ++ statements_limits (own_limits part) (suc around) second.1

abbrev pub IsSecond : (part : Part) → Second part → NamedBlock → Type 0
IsSecond part None tree = tree ≡ End
IsSecond part (Some second) tree = AreStatements (is_own part) second.1 tree

-- the choice with this second block
abbrev pub choice_of : (part : Part) → Expr → Position → Statements (Own part) → Second part → Statement (Own part)
choice_of part condition brace first None = if_alone condition brace first
choice_of part condition brace first (Some second) = if_else condition brace first second.0 second.1

-- the second block, or none, after the first
pub record IsSecondRead (part : Part) (around : ℕ) (tree : NamedBlock) (before after : List Spot) : Type 0 where
  pub second : Second part
  pub reads : Reads (or_else part around ∷ []) [] (second_pieces part second) before after
  pub is : IsSecond part second tree
  pub within : second_limits part around second ≡ []

-- ---- all statements of a block

-- these statements, one after another
abbrev pub statements_of : {B : Type 0} → List (Statement B) → Statements B
statements_of [] = no_more
statements_of (first ∷ more) = and_then first (statements_of more)

-- before the next statement, these are read
pub record StatementsSoFar (part : Part) (around : ℕ) (start now : List Spot) (trees : List NamedStatement) : Type 0 where
  pub read : List (Statement (Own part))
  pub reads : Reads (statements part around ∷ []) (statements part around ∷ []) (flat_map (statement_pieces (own_pieces part)) read) start now
  pub are : AreAll (IsStatementOf part) read trees
  pub within : flat_map (statement_limits (own_limits part) around) read ≡ []

-- the statements of a block, with `around` braces around them
pub record AreRead (part : Part) (around : ℕ) (block : NamedBlock) (before after : List Spot) : Type 0 where
  pub read : Statements (Own part)
  pub reads : Reads (statements part around ∷ []) [] (statements_pieces (own_pieces part) read) before after
  pub are : AreStatements (is_own part) read block
  pub within : statements_limits (own_limits part) around read ≡ []
