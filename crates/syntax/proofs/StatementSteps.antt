-- A statement, and the statements after it.
use Rattle.std.proofs.Common.{◌≡◌, ℕ, List, [], ◌∷◌, ◌++◌, refl, sym, ap, subst, append_assoc, Some, None, arith}
use Rattle.std.specs.List.{flat_map}
use Rattle.std.proofs.lemmas.List.{append-nil}
use Rattle.steptree.specs.Tree.{NamedExpression}
use Rattle.steptree.specs.declared.step.Name.{Name}
use Rattle.steptree.specs.Simple.{NamedSimple, NamedBlock}
use Rattle.steptree.specs.SeenBlocks.{NamedStatement, joined}
use Rattle.steptree.specs.declared.block.Statement.TheVariants as statement
use Rattle.steptree.specs.Tree as block
use Rattle.syntax.specs.declared.part.Beginning.{Beginning}
use Rattle.syntax.specs.declared.part.Beginning.TheVariants as beginning
use Rattle.syntax.specs.declared.stop.Stop.{Stop}
use Rattle.syntax.specs.declared.token.Word.TheVariants as kept
use Rattle.syntax.specs.Tokens.{Spot}
use Rattle.syntax.specs.Grammar.{Expr, Statement, if_alone, if_else, own}
use Rattle.syntax.specs.Limits.{statement_limits, statements_limits}
use Rattle.syntax.specs.Spelled.{a_word, in_braces_at, condition_pieces, statement_pieces, statements_pieces}
use Rattle.syntax.specs.Tree.{IsAssigned, IsStatement, AreStatements, AreAll}
use Rattle.syntax.specs.Expected.{Part, reading, writing, Expected, keyword, put_target, statements, or_else, run}
use Rattle.syntax.specs.Front.{front_of}
use Rattle.syntax.specs.Blocks.{IsAssignment, IsGetRead, IsPutRead}
use Rattle.syntax.specs.Parsed.{Reads, Tells, Stops, named_of}
use Rattle.syntax.specs.Statements.{Own, own_pieces, own_limits, is_own, Begins, assignment_expected, choice_expected, repetition_expected, own_expected, IsStatementOf, IsStatementRead, IsOwnRead, IsChoiceRead}
use Rattle.syntax.specs.Statements.{IsConditionRead, IsNestedRead, Second, second_pieces, second_limits, IsSecond, IsSecondRead, statements_of, StatementsSoFar, AreRead}
use Rattle.syntax.proofs.Moves.{◌⨟◌, reads_on, skipped}
use Rattle.syntax.proofs.KeyParts.{flat_more, flat_none, all_more}

-- ---- parts of a statement

pub assigned_is : (variable : Name) (expr : Expr) (statement : NamedSimple) → IsAssignment variable expr statement → IsAssigned (named_of variable) expr statement
assigned_is variable expr statement is = grind arith

-- a choice, with a second block or none
pub choice_read : {part : Part} {around : ℕ} {value : NamedExpression} {one two : NamedBlock} {before middle three four after : List Spot}
    → Reads (keyword kept.If ∷ []) [] (a_word kept.If) before middle → IsConditionRead value middle three
    → IsNestedRead part around one three four → IsSecondRead part around two four after → IsChoiceRead part around (statement.If value one two) before after
choice_read {part} {around} {value} {one} {two} {before} {middle} {three} {four} {after} begins condition first last = by last.second last.reads last.is last.within
  where
    by : (second : Second part) → Reads (or_else part around ∷ []) [] (second_pieces part second) four after → IsSecond part second two → second_limits part around second ≡ []
        → IsChoiceRead part around (statement.If value one two) before after
    by None reads is none = record {
      statement = if_alone condition.expr first.position first.block;
      reads = simp append-nil at (begins ⨟ condition.reads ⨟ first.reads ⨟ reads);
      is = λ rest. (condition.is, first.are, is, refl);
      within = rw condition.within first.within;
    }
    by (Some second) reads is none = record {
      statement = if_else condition.expr first.position first.block second.0 second.1;
      reads = subst (λ pieces. Reads (choice_expected part around) [] pieces before after)
          (sym (append_assoc (condition_pieces condition.expr ++ in_braces_at first.position (statements_pieces (own_pieces part) first.block)) (a_word kept.Else)
          (in_braces_at second.0 (statements_pieces (own_pieces part) second.1)))) (begins ⨟ condition.reads ⨟ first.reads ⨟ reads);
      is = λ rest. (condition.is, first.are, is, refl);
      within = rw (condition.within, first.within) none;
    }

-- a read of an item, and a put
pub get_read : {tree : NamedSimple} {before middle after : List Spot} → Reads (keyword kept.Get ∷ []) [] (a_word kept.Get) before middle → IsGetRead tree middle after
    → IsOwnRead reading (statement.Simple tree) before after
get_read begins read = λ around. record { statement = own read.get; reads = begins ⨟ read.reads; is = λ rest. (read.is, refl); within = read.within }

pub put_read : {tree : NamedSimple} {before middle after : List Spot} → Reads (keyword kept.Put ∷ []) [] (a_word kept.Put) before middle → IsPutRead (put_target ∷ []) [] tree middle after
    → IsOwnRead writing (statement.Simple tree) before after
put_read {tree} {before} {middle} {after} begins read = λ around.
    let reads = subst (λ pieces. Reads (own_expected writing) [] (a_word kept.Put ++ pieces) before after) (sym read.spelled) (begins ⨟ read.reads) in
    record { statement = own read.put; reads = reads; is = λ rest. (read.is, refl); within = read.within }

-- ---- what a statement begins with

-- what is expected of a statement that begins so
abbrev pub expected_of : Part → ℕ → Beginning → List Expected
expected_of part around beginning.Assignment = assignment_expected
expected_of part around beginning.Choice = choice_expected part around
expected_of part around beginning.Repetition = repetition_expected part around
expected_of part around beginning.Own = own_expected part
expected_of part around beginning.Other = []

same_run : (part : Part) (around : ℕ) (it : Beginning) (behind : List Expected) (before : List Spot) → Begins part (front_of before).0 it
    → run (statements part around ∷ behind) before ≡ run (expected_of part around it ++ (statements part around ∷ behind)) before
same_run part around it behind before begins = grind arith

pub one_statement : {part : Part} {around : ℕ} {tree : NamedStatement} {before after : List Spot} (it : Beginning) → Begins part (front_of before).0 it
    → IsStatementRead part around (expected_of part around it) [] tree before after → IsStatementRead part around (statements part around ∷ []) (statements part around ∷ []) tree before after
one_statement it begins read = grind arith

pub statement_stops : (part : Part) (around : ℕ) (it : Beginning) (before after : List Spot) (cause : Stop) → Begins part (front_of before).0 it → Stops (expected_of part around it) before after cause
    → Stops (statements part around ∷ []) before after cause
statement_stops part around it before after cause begins stops behind =
    subst (Tells cause after) (sym (same_run part around it behind before begins)) (stops (statements part around ∷ behind))

-- ---- statements one after another

pub next_statement : (part : Part) (around : ℕ) (start now after : List Spot) (trees : List NamedStatement) (tree : NamedStatement) → StatementsSoFar part around start now trees
    → IsStatementRead part around (statements part around ∷ []) (statements part around ∷ []) tree now after → StatementsSoFar part around start after (trees ++ tree ∷ [])
next_statement part around start now after trees tree so_far one = record {
  read = so_far.read ++ one.statement ∷ [];
  reads = subst (λ pieces. Reads (statements part around ∷ []) (statements part around ∷ []) pieces start after) (sym (flat_more (statement_pieces (own_pieces part)) so_far.read one.statement))
      (reads_on [] so_far.reads one.reads);
  are = all_more (IsStatementOf part) so_far.read trees one.statement tree so_far.are one.is;
  within = flat_none (statement_limits (own_limits part) around) so_far.read one.statement so_far.within one.within;
}

all_pieces : (part : Part) (read : List (Statement (Own part))) → flat_map (statement_pieces (own_pieces part)) read ≡ statements_pieces (own_pieces part) (statements_of read)
all_pieces part [] = refl
all_pieces part (first ∷ read) = ap (λ pieces. statement_pieces (own_pieces part) first ++ pieces) (all_pieces part read)

all_limits : (part : Part) (around : ℕ) (read : List (Statement (Own part))) → statements_limits (own_limits part) around (statements_of read) ≡ flat_map (statement_limits (own_limits part) around) read
all_limits part around [] = refl
all_limits part around (first ∷ read) = ap (λ limits. statement_limits (own_limits part) around first ++ limits) (all_limits part around read)

-- ---- what follows a statement

statement_weaker : (part : Part) (statement : Statement (Own part)) (tree : NamedBlock) (P Q : NamedBlock → Type 0) → ((other : NamedBlock) → P other → Q other)
    → IsStatement (is_own part) statement tree P → IsStatement (is_own part) statement tree Q
statement_weaker part statement tree P Q weaker is = grind (arith, weaker)

are_joined : (part : Part) (read : List (Statement (Own part))) (trees : List NamedStatement) → AreAll (IsStatementOf part) read trees → AreStatements (is_own part) (statements_of read) (joined trees block.End)
are_joined part [] trees are = grind arith
are_joined part (first ∷ read) [] are = absurd are
are_joined part (first ∷ read) (tree ∷ trees) are = statement_weaker part first _ (λ other. other ≡ joined trees block.End) (AreStatements (is_own part) (statements_of read))
    (λ other same. rw same (are_joined part read trees are.1)) (are.0 (joined trees block.End))

pub all_statements : (part : Part) (around : ℕ) (start now : List Spot) (trees : List NamedStatement) → StatementsSoFar part around start now trees
    → Begins part (front_of now).0 beginning.Other → AreRead part around (joined trees block.End) start now
all_statements part around start now trees so_far none =
    let goes : (behind : List Expected) → run (statements part around ∷ behind) now ≡ run behind now = λ behind. skipped (statements part around) behind now (none around (front_of now).1) in
    grind (arith, all_limits, all_pieces, are_joined)
