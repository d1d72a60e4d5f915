use Rattle.std.proofs.Common.{[], ◌∷◌, refl, sym, ap, ◌∙◌}
use Rattle.std.proofs.lemmas.List.{append-nil}
use Rattle.syntax.specs.declared.token.Symbol.TheVariants as sign
use Rattle.syntax.specs.declared.token.Word.TheVariants as kept
use Rattle.syntax.specs.Tokens.{symbol, word}
use Rattle.syntax.specs.Grammar.{reads, environment_gets}
use Rattle.syntax.specs.Spelled.{plain}
use Rattle.syntax.specs.Parsed.{left, named_of}
use Rattle.syntax.specs.Expected.{exactly, reader, round_rest, look_reader}
use Rattle.syntax.proofs.Moves.{◌⨟◌, reads_on, taken_one}
use Rattle.syntax.proofs.Forward.{known}
use Rattle.syntax.proofs.relations.behind_item.Goals as goal

pub returns-in_ok-step-in-Symbol-OpenRound-clause-reads : goal.returns-in_ok-step-in-Symbol-OpenRound-clause-reads
returns-in_ok-step-in-Symbol-OpenRound-clause-reads c =
    let before = left c.sign.new.self in
    let lexeme = sym c.in-Symbol-OpenRound.ensures ∙ ap symbol c.in-Symbol-OpenRound.field-0-is in
    let bracket = taken_one reader round_rest (plain (symbol sign.OpenRound)) before (left c.advance.new.self) (known before _ lexeme (λ e. cc)) c.advance.ensures (ap look_reader lexeme) lexeme in
    let step = c.in_ok-step-in-Symbol-OpenRound in
    record {
      relation = reads c.args.place (named_of c.args.item) (named_of step.step);
      rest = _;
      spelled = refl;
      reads = c.in_ok-sign.ensures.reads ⨟ reads_on (exactly sign.Semicolon ∷ []) bracket step.ensures.reads;
      is = (refl, (refl, refl), (refl, refl));
      within = rw step.ensures.within (append-nil _);
    }

pub returns-in_ok-sign-in-Word-Env-clause-reads : goal.returns-in_ok-sign-in-Word-Env-clause-reads
returns-in_ok-sign-in-Word-Env-clause-reads c =
    let before = left c.sign.new.self in
    let lexeme = sym c.in-Word-Env.ensures ∙ ap word c.in-Word-Env.field-0-is in
    let environment = taken_one reader [] (plain (word kept.Env)) before (left c.advance-in-Word-Env.new.self) (known before _ lexeme (λ e. cc)) c.advance-in-Word-Env.ensures (ap look_reader lexeme) lexeme in
    record {
      relation = environment_gets c.args.place (named_of c.args.item);
      rest = _;
      spelled = refl;
      reads = c.in_ok-sign.ensures.reads ⨟ (environment ⨟ c.in_ok-sign-in-Word-Env.ensures.reads);
      is = (refl, (refl, refl));
      within = refl;
    }
