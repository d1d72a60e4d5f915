use Rattle.std.proofs.Common.{is_ok, ap, ◌∙◌, arith}
use Rattle.std.proofs.ResultArms.{chosen}
use Rattle.std.specs.List.{prefix_len}
use Rattle.std.proofs.lemmas.Str.{IsCharBoundary-from_ascii}
use Rattle.script.specs.Lexemes.{lexemes_of}
use Rattle.script.specs.Tokens.{is_space}
use Rattle.script.proofs.Chain.{spaces_within, not_space, finished, token_read, SoFar-pushed, sound_pushed}
use Rattle.script.proofs.lexer.tokenize.Goals as goal

pub overflow_add-place : goal.overflow_add-place
overflow_add-place c =
    let spaces = c.leading_spaces-place.ensures ∙ ap (prefix_len is_space) (c.as_bytes.ensures.value ∙ c.range_from.ensures.value) in
    omega (arith, spaces_within c.args.line.now c.loop-place.place _ spaces c.loop-place.invariant.within)

pub returns-then-place-line-clause-tokens : goal.returns-then-place-line-clause-tokens
returns-then-place-line-clause-tokens c =
    let spaces = c.leading_spaces-place.ensures ∙ ap (prefix_len is_space) (c.as_bytes.ensures.value ∙ c.range_from.ensures.value) in
    finished c.args.line.now c.loop-place.place _ _ spaces c.if-place-line.true c.loop-place.invariant.so_far

pub range_from-requires-in-loop-place : goal.range_from-requires-in-loop-place
range_from-requires-in-loop-place c = λ _.
    let spaces = c.leading_spaces-place.ensures ∙ ap (prefix_len is_space) (c.as_bytes.ensures.value ∙ c.range_from.ensures.value) in
    IsCharBoundary-from_ascii c.args.line.now _ c.requires.ascii (spaces_within c.args.line.now c.loop-place.place _ spaces c.loop-place.invariant.within)

pub first_token-length-requires-clause-not_space : goal.first_token-length-requires-clause-not_space
first_token-length-requires-clause-not_space c =
    let text = c.args.line.now in
    let spaces = c.leading_spaces-place.ensures ∙ ap (prefix_len is_space) (c.as_bytes.ensures.value ∙ c.range_from.ensures.value) in
    let within = spaces_within text c.loop-place.place _ spaces c.loop-place.invariant.within in
    not_space text _ c.loop-place.place _ spaces c.range_from-in-loop-place.ensures.value (omega (arith, within))

pub loop-place-preserved : goal.loop-place-preserved
loop-place-preserved c =
    let text = c.args.line.now in
    let spaces = c.leading_spaces-place.ensures ∙ ap (prefix_len is_space) (c.as_bytes.ensures.value ∙ c.range_from.ensures.value) in
    let token = c.first_token-length.ensures in
    let pushed = chosen _ _ _ _ c.push.ensures.items (ap is_ok c.in_ok-push.was) in
    let read = token_read text c.range_from-in-loop-place.result.now c.loop-place.place _ _ _ (lexemes_of c.loop-place.tokens.items) spaces c.range_from-in-loop-place.ensures.value token.stands c.loop-place.invariant.so_far in
    record {
      within = omega arith;
      so_far = SoFar-pushed text _ c.loop-place.tokens.items _ _ pushed read;
      sound = sound_pushed c.loop-place.tokens.items _ _ pushed c.loop-place.invariant.sound token.sound;
    }
