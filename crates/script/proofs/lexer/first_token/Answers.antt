use Rattle.std.proofs.Common.{drop, sym, subst, take-append-drop, ◌∙◌}
use Rattle.std.proofs.lemmas.Slice.{between_from_start}
use Rattle.std.proofs.lemmas.Str.{IsCharBoundary-from_ascii}
use Rattle.std.specs.Str.Parse.{IsNumeral, signed_digits_value, without_leading_sign}
use Rattle.syntax.specs.Tokens.{is_digit}
use Rattle.script.specs.Tokens.{Stands, number}
use Rattle.syntax.proofs.Runs.{run_within}
use Rattle.syntax.proofs.Fronts.{is_word_part, whole_front}
use Rattle.script.proofs.Fronts.{digit_more, number_stands, number_sound}
use Rattle.script.proofs.lexer.first_token.Goals as goal

pub range-requires-clause-end_boundary : goal.range-requires-clause-end_boundary
range-requires-clause-end_boundary c =
    let longest = rw c.as_bytes-bytes.ensures.value at c.leading_word-length.ensures in
    IsCharBoundary-from_ascii c.args.text.now _ c.requires.ascii (run_within is_word_part _ _ longest)

pub range-requires-then-is_digit-clause-end_boundary : goal.range-requires-then-is_digit-clause-end_boundary
range-requires-then-is_digit-clause-end_boundary c =
    let longest = rw c.as_bytes-bytes.ensures.value at c.leading_digits-length.ensures in
    IsCharBoundary-from_ascii c.args.text.now _ c.requires.ascii (run_within is_digit _ _ longest)

pub returns-then-is_letter-clause-stands : goal.returns-then-is_letter-clause-stands
returns-then-is_letter-clause-stands c =
    let text = c.args.text.now in
    let n = c.leading_word-length.result in
    let longest = rw c.as_bytes-bytes.ensures.value at c.leading_word-length.ensures in
    let opens = rw c.as_bytes-bytes.ensures.value at c.if-is_letter.ensures in
    let front = c.range.ensures.value ∙ between_from_start text n in
    let whole = whole_front text n longest c.requires.some (sym opens) in
    rw front (sym (take-append-drop n text), whole)

pub returns-then-is_digit-clause-stands : goal.returns-then-is_digit-clause-stands
returns-then-is_digit-clause-stands c =
    let text = c.args.text.now in
    let n = c.leading_digits-length.result in
    let longest = rw c.as_bytes-bytes.ensures.value at c.leading_digits-length.ensures in
    let opens = rw c.as_bytes-bytes.ensures.value at c.if-is_digit.ensures in
    let front = c.range-then-is_digit.ensures.value ∙ between_from_start text n in
    let more = digit_more text n longest c.requires.some (sym opens) in
    subst (λ digits. Stands (number (signed_digits_value 10 digits)) text (drop n text)) (sym front) (number_stands text n longest more c.requires.some)

pub returns-then-is_digit-clause-sound : goal.returns-then-is_digit-clause-sound
returns-then-is_digit-clause-sound c =
    let text = c.args.text.now in
    let n = c.leading_digits-length.result in
    let longest = rw c.as_bytes-bytes.ensures.value at c.leading_digits-length.ensures in
    let opens = rw c.as_bytes-bytes.ensures.value at c.if-is_digit.ensures in
    let front = c.range-then-is_digit.ensures.value ∙ between_from_start text n in
    let more = digit_more text n longest c.requires.some (sym opens) in
    subst (λ digits. IsNumeral 10 (without_leading_sign digits)) (sym front) (number_sound text n longest more c.requires.some)
