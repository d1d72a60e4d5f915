use Rattle.std.proofs.Common.{◌≡◌, [], ◌∷◌, ◌++◌, add-one, refl, sym, subst, ◌∙◌, rules, Some, None, Ok, Err}
use Rattle.syntax.specs.declared.part.Beginning.TheVariants as beginning
use Rattle.syntax.specs.declared.token.Symbol.TheVariants as sign
use Rattle.syntax.specs.Grammar.{for}
use Rattle.syntax.specs.Expected.{exactly, nested, or_else, statements}
use Rattle.syntax.specs.Parsed.{left, named_of}
use Rattle.syntax.specs.Statements.{part_of, Begins, StatementsSoFar}
use Rattle.syntax.proofs.Fewer.{statement_fewer}
use Rattle.syntax.proofs.Returned.{as_ok, as_err}
use Rattle.syntax.proofs.Stopping.{passed_on}
use Rattle.syntax.proofs.Moves.{◌⨟◌, reads_on, stops_behind}
use Rattle.syntax.proofs.StatementSteps.{choice_read, one_statement, statement_stops, next_statement, all_statements}
use Rattle.syntax.proofs.blocks.+blocks.Goals.{statements-in-Assignment, statements-in-Choice, statements-in-Repetition, statements-in-Own}
use Rattle.syntax.proofs.blocks.+blocks.Goals as goal

-- ---- a block in braces

pub nested-returns-in_err-block-clause-stops : goal.nested-returns-in_err-block-clause-stops
nested-returns-in_err-block-clause-stops t c =
    let stops = rw add-one at c.in_err-block.ensures.stops in
    passed_on c.from_residual-in_err-block.result c.in_err-block.field-0.0 _ c.from_residual-in_err-block.ensures.1
    (stops_behind (statements (part_of c.args.part) _ ∷ exactly sign.CloseBrace ∷ []) (left c.statements.new.cursor) c.in_err-block.field-0.0 c.in_ok-brace.ensures.reads.reads (λ behind. stops (exactly sign.CloseBrace ∷ behind)))

pub nested-returns-clause-reads : goal.nested-returns-clause-reads
nested-returns-clause-reads t c =
    let brace = c.in_ok-brace.ensures.reads in
    let read = rw add-one at c.in_ok-block.ensures.reads in
    record { position = brace.position; block = read.read; reads = brace.reads ⨟ (read.reads ⨟ c.in_ok-sign.ensures.reads); are = read.are; within = rw brace.within read.within }

-- ---- the second block of a choice

pub second-returns-then-not-takes_word-clause-reads : goal.second-returns-then-not-takes_word-clause-reads
second-returns-then-not-takes_word-clause-reads t c =
    let part = part_of c.args.part in
    let none = c.if-not-takes_word.ensures.taken in
    rw c.end.ensures (record { second = None; reads = record { spells = sym none.0; goes = none.1 (or_else part c.args.around) (nested part c.args.around) (λ lexeme place. refl) }; is = refl; within = refl })

pub second-returns-clause-reads : goal.second-returns-clause-reads
second-returns-clause-reads t c = as_ok c.nested.result _ _ c.nested.ensures.reads (λ tree block.
    let part = part_of c.args.part in
    let word = c.if-not-takes_word.ensures.taken (or_else part c.args.around) (nested part c.args.around) (λ lexeme place. refl) in
    record { second = Some (block.position, block.block); reads = reads_on [] word block.reads; is = block.are; within = block.within })

pub second-returns-clause-stops : goal.second-returns-clause-stops
second-returns-clause-stops t c = as_err c.nested.result _ _ c.nested.ensures.stops (λ cause stops.
    let part = part_of c.args.part in
    stops_behind [] (left c.nested.new.cursor) cause (c.if-not-takes_word.ensures.taken (or_else part c.args.around) (nested part c.args.around) (λ lexeme place. refl)) stops)

-- ---- a choice and a repetition

pub choice-returns-clause-reads : goal.choice-returns-clause-reads
choice-returns-clause-reads t c =
    choice_read c.in_ok-keyword.ensures.reads c.in_ok-condition.ensures.reads c.in_ok-first.ensures.reads c.in_ok-second.ensures.reads

pub repetition-returns-clause-reads : goal.repetition-returns-clause-reads
repetition-returns-clause-reads t c =
    let from = c.in_ok-from.ensures.reads in
    let to = c.in_ok-to.ensures.reads in
    let block = c.in_ok-block.ensures.reads in
    record {
      statement = for (named_of c.in_ok-variable.variable) from.expr to.expr block.position block.block;
      reads = c.in_ok-keyword.ensures.reads ⨟ (c.in_ok-variable.ensures.reads ⨟ (c.in_ok-keyword-2.ensures.reads ⨟ (from.reads ⨟ c.in_ok-sign.ensures.reads ⨟ to.reads ⨟ block.reads)));
      is = λ rest. ((refl, refl), from.is, to.is, block.are, refl);
      within = rw (c.in_ok-variable.ensures.within, from.within, to.within) block.within;
    }

-- ---- statements

pub statements-returns-in-Other-clause-reads : goal.statements-returns-in-Other-clause-reads
statements-returns-in-Other-clause-reads t c =
    let so_far = c.loop-cursor in
    let none = subst (λ lexeme. Begins (part_of c.args.part) lexeme beginning.Other) c.front.ensures (subst (Begins (part_of c.args.part) _) c.in-Other.is c.beginning.ensures) in
    all_statements (part_of c.args.part) c.args.around (left c.args.cursor.now) (left so_far.cursor) so_far.statements.items so_far.invariant none

pub statements-returns-in_err-statement-clause-stops : goal.statements-returns-in_err-statement-clause-stops
statements-returns-in_err-statement-clause-stops t c =
    let part = part_of c.args.part in
    let now = left c.loop-cursor.cursor in
    passed_on c.from_residual.result c.in_err-statement.field-0.0 _ c.from_residual.ensures.1 (stops_behind [] _ _ c.loop-cursor.invariant.reads (elim c.match-beginning.branch [
      | statements-in-Assignment w ↦ let err : w.assigned.result ≡ Err c.in_err-statement.field-0.0 = sym w.branch'-is ∙ c.in_err-statement.was in
          rw w.cursor-is (statement_stops part _ beginning.Assignment now _ _ (w.in-Assignment.ensures.0, sym c.front.ensures ∙ w.in-Assignment.ensures.1) (rw err at w.assigned.ensures.stops))
      | statements-in-Choice w ↦ let err : w.choice.result ≡ Err c.in_err-statement.field-0.0 = sym w.branch'-is ∙ c.in_err-statement.was in
          rw w.cursor-is (statement_stops part _ beginning.Choice now _ _ (sym c.front.ensures ∙ w.in-Choice.ensures) (rw err at w.choice.ensures.stops))
      | statements-in-Repetition w ↦ let err : w.repetition.result ≡ Err c.in_err-statement.field-0.0 = sym w.branch'-is ∙ c.in_err-statement.was in
          rw w.cursor-is (statement_stops part _ beginning.Repetition now _ _ (sym c.front.ensures ∙ w.in-Repetition.ensures) (rw err at w.repetition.ensures.stops))
      | statements-in-Own w ↦ let err : w.own.result ≡ Err c.in_err-statement.field-0.0 = sym w.branch'-is ∙ c.in_err-statement.was in
          rw w.cursor-is (statement_stops part _ beginning.Own now _ _ (sym c.front.ensures ∙ w.in-Own.ensures) (rw err at w.own.ensures.stops))
    ]))

pub statements-loop-cursor-preserved : goal.statements-loop-cursor-preserved
statements-loop-cursor-preserved t c =
    let so_far = c.loop-cursor in
    let part = part_of c.args.part in
    let around = c.args.around in
    let start = left c.args.cursor.now in
    let now = left so_far.cursor in
    let trees = so_far.statements.items in
    let tree = c.in_ok-statement.statement in
    let pushed : c.push_reserved.new.self.items ≡ trees ++ tree ∷ [] = search rules in
    subst (StatementsSoFar part around start (left c.match-beginning.cursor)) (sym pushed) (elim c.match-beginning.branch [
      | statements-in-Assignment w ↦ let ok : w.assigned.result ≡ Ok tree = sym w.branch'-is ∙ c.in_ok-statement.was in
          rw w.cursor-is (next_statement part around start now _ trees tree so_far.invariant (one_statement beginning.Assignment (w.in-Assignment.ensures.0, sym c.front.ensures ∙ w.in-Assignment.ensures.1) ((rw ok at w.assigned.ensures.reads) part c.args.around)))
      | statements-in-Choice w ↦ let ok : w.choice.result ≡ Ok tree = sym w.branch'-is ∙ c.in_ok-statement.was in
          rw w.cursor-is (next_statement part around start now _ trees tree so_far.invariant (one_statement beginning.Choice (sym c.front.ensures ∙ w.in-Choice.ensures) (rw ok at w.choice.ensures.reads)))
      | statements-in-Repetition w ↦ let ok : w.repetition.result ≡ Ok tree = sym w.branch'-is ∙ c.in_ok-statement.was in
          rw w.cursor-is (next_statement part around start now _ trees tree so_far.invariant (one_statement beginning.Repetition (sym c.front.ensures ∙ w.in-Repetition.ensures) (rw ok at w.repetition.ensures.reads)))
      | statements-in-Own w ↦ let ok : w.own.result ≡ Ok tree = sym w.branch'-is ∙ c.in_ok-statement.was in
          rw w.cursor-is (next_statement part around start now _ trees tree so_far.invariant (one_statement beginning.Own (sym c.front.ensures ∙ w.in-Own.ensures) ((rw ok at w.own.ensures.reads) c.args.around)))
    ])

pub statements-loop-cursor-smaller : goal.statements-loop-cursor-smaller
statements-loop-cursor-smaller t c = let part = part_of c.args.part in elim c.match-beginning.branch [
  | statements-in-Assignment w ↦ let ok : w.assigned.result ≡ Ok c.in_ok-statement.statement = sym w.branch'-is ∙ c.in_ok-statement.was in
      rw w.cursor-is (statement_fewer ((rw ok at w.assigned.ensures.reads) part c.args.around))
  | statements-in-Choice w ↦ let ok : w.choice.result ≡ Ok c.in_ok-statement.statement = sym w.branch'-is ∙ c.in_ok-statement.was in
      rw w.cursor-is (statement_fewer (rw ok at w.choice.ensures.reads))
  | statements-in-Repetition w ↦ let ok : w.repetition.result ≡ Ok c.in_ok-statement.statement = sym w.branch'-is ∙ c.in_ok-statement.was in
      rw w.cursor-is (statement_fewer (rw ok at w.repetition.ensures.reads))
  | statements-in-Own w ↦ let ok : w.own.result ≡ Ok c.in_ok-statement.statement = sym w.branch'-is ∙ c.in_ok-statement.was in
      rw w.cursor-is (statement_fewer ((rw ok at w.own.ensures.reads) c.args.around))
]
