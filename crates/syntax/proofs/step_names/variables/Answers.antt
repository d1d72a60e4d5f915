use Rattle.std.proofs.Common.{◌≡◌, ◌-◌, sym, subst, arith}
use Rattle.steptree.specs.declared.slot.TheConstants.{MOST_NAMES}
use Rattle.syntax.specs.Parsed.{left}
use Rattle.syntax.specs.StepNames.{AreVariables}
use Rattle.syntax.proofs.StepParts.{variable_list, no_variables_read, variables_read, variables_stop}
use Rattle.syntax.proofs.Returned.{as_ok, as_err}
use Rattle.syntax.proofs.step_names.variables.Goals as goal

pub returns-then-not-takes_word-clause-reads : goal.returns-then-not-takes_word-clause-reads
returns-then-not-takes_word-clause-reads c =
    subst (λ items. AreVariables c.args.before items (left c.args.cursor.now) (left c.takes_word.new.self)) (sym c.new.ensures.items) (no_variables_read c.args.before _ _ c.if-not-takes_word.ensures.taken)

pub returns-clause-stops : goal.returns-clause-stops
returns-clause-stops c =
    let most : c.saturating_sub-most.result ≡ MOST_NAMES - c.args.before = omega (arith, c.saturating_sub-most.ensures) in
    as_err c.listed.result _ _ c.listed.ensures.stops (λ stop stops.
    variables_stop c.args.before (left c.args.cursor.now) (left c.takes_word.new.self) (left c.listed.new.cursor) stop c.if-not-takes_word.ensures.taken
    (stops (variable_list c.args.before c.saturating_sub-most.result most)))

pub returns-clause-reads : goal.returns-clause-reads
returns-clause-reads c =
    let most : c.saturating_sub-most.result ≡ MOST_NAMES - c.args.before = omega (arith, c.saturating_sub-most.ensures) in
    as_ok c.listed.result _ _ c.listed.ensures.reads (λ names read.
    variables_read c.args.before c.saturating_sub-most.result most names.items (left c.args.cursor.now) (left c.takes_word.new.self) (left c.listed.new.cursor) c.if-not-takes_word.ensures.taken
    (read (variable_list c.args.before c.saturating_sub-most.result most)))
