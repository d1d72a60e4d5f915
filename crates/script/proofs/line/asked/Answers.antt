use Rattle.std.proofs.Common.{refl, vec_len}
use Rattle.script.specs.Lexemes.{lexemes_of}
use Rattle.script.proofs.AsciiLines.{form_ascii, spaces_ascii}
use Rattle.script.proofs.Asked.{line_fault, no_form, some_items, some_token, spelled, tokens_read}
use Rattle.script.proofs.line.asked.Goals as goal

pub returns-in_default-clause-refused : goal.returns-in_default-clause-refused
returns-in_default-clause-refused c =
    let line = c.args.line.now in
    (refl, (λ spaces. c.in_default.ensures (spaces_ascii line spaces), λ form spells. c.in_default.ensures (form_ascii line form spells.0)))

pub returns-in-Ok-clause-asked : goal.returns-in-Ok-clause-asked
returns-in-Ok-clause-asked c =
    let line = c.args.line.now in
    let read = c.in-Some-requested.ensures in
    let are = tokens_read line c.in-Some.text.now c.tokenize.new.tokens.items c.deref.result.now c.in-Some.ensures.0 c.deref.ensures.value c.in_ok-tokenize.ensures.tokens in
    let command = c.in-Ok.ensures read.0 read.3 in
    (read.0, spelled line (lexemes_of c.deref.result.now) read.0 are read.1 read.2, command.0, command.1)

pub returns-in-Err-clause-refused : goal.returns-in-Err-clause-refused
returns-in-Err-clause-refused c =
    let line = c.args.line.now in
    let read = c.in-Some-requested.ensures in
    let are = tokens_read line c.in-Some.text.now c.tokenize.new.tokens.items c.deref.result.now c.in-Some.ensures.0 c.deref.ensures.value c.in_ok-tokenize.ensures.tokens in
    (refl, line_fault c.args.graph.now line read.0 c.in-Err.fault (spelled line (lexemes_of c.deref.result.now) read.0 are read.1 read.2) (c.in-Err.ensures read.0 read.3))

pub returns-in-None-clause-refused : goal.returns-in-None-clause-refused
returns-in-None-clause-refused c =
    let line = c.args.line.now in
    let are = tokens_read line c.in-Some.text.now c.tokenize.new.tokens.items c.deref.result.now c.in-Some.ensures.0 c.deref.ensures.value c.in_ok-tokenize.ensures.tokens in
    let some = some_items c.deref.result.now (vec_len c.tokenize.new.tokens) c.deref.ensures.len c.if-is_empty.ensures in
    (refl, (some_token line c.deref.result.now are some, λ form spells. no_form line (lexemes_of c.deref.result.now) are c.in-None.ensures form spells))
