use Rattle.std.proofs.lemmas.Result.{err_from_is_err_and}
use Rattle.script.proofs.Lines.{finished, next, refused, where_last, where_more}
use Rattle.script.proofs.parser.parse_script.Goals as goal

pub returns-in_err-read_line-clause-refused : goal.returns-in_err-read_line-clause-refused
returns-in_err-read_line-clause-refused c =
    let passed = err_from_is_err_and c.from_residual.result c.from_residual.ensures.1 in
    rw (passed.1, passed.2) (refused c.args.graph.now c.args.text.now c.loop-tokens.left.now c.first_line.result.0.now c.loop-tokens.number c.loop-tokens.commands.items c.first_line.result.1 c.in_err-read_line.field-0.0 c.if-text-gt-MOST_BYTES.false c.loop-tokens.invariant c.first_line.ensures.line c.first_line.ensures.behind c.in_err-read_line.ensures.refused)

pub returns-in_default-clause-commands : goal.returns-in_default-clause-commands
returns-in_default-clause-commands c =
    let line = c.first_line.result.0.now in
    let left = c.loop-tokens.left.now in
    finished c.args.graph.now c.args.text.now left line c.loop-tokens.number c.loop-tokens.commands.items c.read_line.new.commands.items c.if-text-gt-MOST_BYTES.false c.loop-tokens.invariant c.first_line.ensures.line (where_last left line c.first_line.result.1 c.in_default.is c.first_line.ensures.behind) c.in_ok-read_line.ensures.added

pub loop-tokens-preserved : goal.loop-tokens-preserved
loop-tokens-preserved c =
    let line = c.first_line.result.0.now in
    let left = c.loop-tokens.left.now in
    next c.args.graph.now c.args.text.now left line c.in-Some.behind.now c.loop-tokens.number c.loop-tokens.commands.items c.read_line.new.commands.items c.loop-tokens.invariant c.first_line.ensures.line (where_more left line c.first_line.result.1 c.in-Some.behind c.in-Some.is c.first_line.ensures.behind) c.in_ok-read_line.ensures.added
