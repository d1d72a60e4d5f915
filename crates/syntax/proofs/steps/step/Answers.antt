use Rattle.std.proofs.Common.{◌≡◌, ◌∷◌, [], length, refl, subst, rules}
use Rattle.syntax.specs.declared.token.Symbol.TheVariants as sign
use Rattle.syntax.specs.declared.token.Word.TheVariants as kept
use Rattle.syntax.specs.Grammar.{StepText}
use Rattle.syntax.specs.Spelled.{a_sign, a_word, in_braces, statements_pieces}
use Rattle.syntax.specs.OwnStatements.{get_pieces, put_pieces}
use Rattle.syntax.specs.GraphTexts.{variables_pieces}
use Rattle.syntax.specs.Expected.{step_body, variables as some_variables}
use Rattle.syntax.specs.Parsed.{left, named_of, Reads}
use Rattle.syntax.specs.StepNames.{AreVariables}
use Rattle.syntax.proofs.Moves.{◌⨟◌, reads_on}
use Rattle.syntax.proofs.StepParts.{body_pieces, step_within}
use Rattle.syntax.proofs.steps.step.Goals as goal

pub returns-clause-reads : goal.returns-clause-reads
returns-clause-reads c =
    let given = c.in_ok-parameters.parameters.items in
    let parameters = c.in_ok-parameters.ensures.reads in
    let counted : c.len.result ≡ length given = search rules in
    let variables = subst (λ count. AreVariables count c.in_ok-variables.variables.items (left c.sign-2.new.self) (left c.variables.new.cursor)) counted c.in_ok-variables.ensures.reads in
    let fewer = rw counted at c.in_ok-variables.ensures.few in
    let read = c.in_ok-read.ensures.reads in
    let write = c.in_ok-write.ensures.reads in
    let text : StepText = record { name = named_of c.in_ok-name.name; parameters = parameters.names; variables = variables.names; read = read.block; write = write.block } in
    let reads = in_braces (statements_pieces get_pieces text.read) in
    let writes = in_braces (statements_pieces put_pieces text.write) in
    let same = body_pieces (variables_pieces text.variables) (a_word kept.Read) reads (a_word kept.Write) writes (a_sign sign.CloseBrace) in
    let body = subst (λ pieces. Reads (some_variables (length given) ∷ step_body) [] pieces (left c.sign-2.new.self) (left c.sign-3.new.self)) same
    (variables.reads ⨟ read.reads ⨟ write.reads ⨟ c.in_ok-sign-3.ensures.reads) in
    record {
      text = text;
      reads = c.in_ok-name.ensures.reads ⨟ (c.in_ok-sign.ensures.reads ⨟ reads_on step_body parameters.reads (c.in_ok-sign-2.ensures.reads ⨟ body));
      is = record { name = (refl, refl); parameters = parameters.are; variables = variables.are; read = read.are; write = write.are };
      within = step_within c.args.before text given c.in_ok-variables.variables.items c.in_ok-name.ensures.room c.in_ok-name.ensures.within parameters.are c.in_ok-parameters.ensures.few parameters.within
          variables.are fewer variables.within read.within write.within;
    }
