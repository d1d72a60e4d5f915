use Rattle.std.proofs.Common.{[], sym, ap, ◌∙◌}
use Rattle.syntax.specs.declared.token.Symbol.TheVariants as sign
use Rattle.syntax.specs.Tokens.{symbol}
use Rattle.syntax.specs.Spelled.{plain}
use Rattle.syntax.specs.Parsed.{left}
use Rattle.syntax.specs.Expected.{item_rest, put_target, tag_rest, look_put_target}
use Rattle.syntax.proofs.Moves.{reads_on, taken_one}
use Rattle.syntax.proofs.Forward.{known}
use Rattle.syntax.proofs.Returned.{as_ok}
use Rattle.syntax.proofs.own_statements.put.Goals as goal

pub returns-in-Symbol-OpenBracket-clause-reads : goal.returns-in-Symbol-OpenBracket-clause-reads
returns-in-Symbol-OpenBracket-clause-reads c =
    let before = left c.args.cursor.now in
    let lexeme = sym c.in-Symbol-OpenBracket.ensures ∙ ap symbol c.in-Symbol-OpenBracket.field-0-is in
    let first = taken_one put_target item_rest (plain (symbol sign.OpenBracket)) before (left c.advance.new.self) (known before _ lexeme (λ e. cc)) c.advance.ensures (ap look_put_target lexeme) lexeme in
    as_ok c.put_item.result _ _ c.put_item.ensures.reads (λ block read. record { put = read.put; rest = _; spelled = read.spelled; reads = reads_on [] first read.reads; is = read.is; within = read.within })

pub returns-in-Symbol-Less-clause-reads : goal.returns-in-Symbol-Less-clause-reads
returns-in-Symbol-Less-clause-reads c =
    let before = left c.args.cursor.now in
    let lexeme = sym c.in-Symbol-Less.ensures ∙ ap symbol c.in-Symbol-Less.field-0-is in
    let first = taken_one put_target tag_rest (plain (symbol sign.Less)) before (left c.advance-in-Symbol-Less.new.self) (known before _ lexeme (λ e. cc)) c.advance-in-Symbol-Less.ensures (ap look_put_target lexeme) lexeme in
    as_ok c.put_tag.result _ _ c.put_tag.ensures.reads (λ block read. record { put = read.put; rest = _; spelled = read.spelled; reads = reads_on [] first read.reads; is = read.is; within = read.within })
