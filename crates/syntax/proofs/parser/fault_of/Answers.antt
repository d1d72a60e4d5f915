use Rattle.std.proofs.Common.{sym, subst, ◌∙◌}
use Rattle.syntax.specs.Expected.{run, graph_expected}
use Rattle.syntax.specs.Parsed.{left, Tells}
use Rattle.syntax.specs.Reading.{IsSyntaxFault}
use Rattle.syntax.proofs.Causes.{syntax_cause, limit_cause}
use Rattle.syntax.proofs.GraphParts.{place_there}
use Rattle.syntax.proofs.parser.fault_of.Goals as goal

pub returns-in-Syntax : goal.returns-in-Syntax
returns-in-Syntax c = λ text spots tokens ends tells.
    let rest = left c.args.cursor.now in
    let told = subst (λ it. Tells it rest (run graph_expected spots)) c.in-Syntax.is tells in
    let cause = syntax_cause text spots rest tokens told in
    subst (IsSyntaxFault text) (sym (c.place_or.ensures ∙ place_there text spots rest cause.0 c.args.end ends cause.2)) cause.3

pub returns-in-TooLarge : goal.returns-in-TooLarge
returns-in-TooLarge c = λ text spots tokens ends tells.
    let told = subst (λ it. Tells it (left c.args.cursor.now) (run graph_expected spots)) c.in-TooLarge.is tells in
    limit_cause text spots c.in-TooLarge.place tokens told
