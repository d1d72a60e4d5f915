use Rattle.std.proofs.Common.{drop, inl, sym, subst, take-append-drop, ◌∙◌, rules}
use Rattle.std.proofs.lemmas.List.{drop_all}
use Rattle.std.proofs.lemmas.Slice.{between_from_start}
use Rattle.syntax.specs.Tokens.{AreDigits, Stands, is_digit, lexeme_of}
use Rattle.syntax.proofs.Runs.{boundary, run_within}
use Rattle.syntax.proofs.Fronts.{is_word_part, whole_front, has_digits, number_stands, passed_on, too_large}
use Rattle.syntax.proofs.lexer.first_token.Goals as goal

pub range-requires-clause-end_boundary : goal.range-requires-clause-end_boundary
range-requires-clause-end_boundary c =
    let longest = rw c.as_bytes-bytes.ensures.value at c.leading_word-length.ensures in
    boundary c.args.text.now _ c.requires.ascii (run_within is_word_part _ _ longest)

pub range-requires-then-is_digit-clause-end_boundary : goal.range-requires-then-is_digit-clause-end_boundary
range-requires-then-is_digit-clause-end_boundary c =
    let longest = rw c.as_bytes-bytes.ensures.value at c.leading_digits-length.ensures in
    boundary c.args.text.now _ c.requires.ascii (run_within is_digit _ _ longest)

pub number-requires-clause-digits : goal.number-requires-clause-digits
number-requires-clause-digits c =
    let longest = rw c.as_bytes-bytes.ensures.value at c.leading_digits-length.ensures in
    let front = c.range-then-is_digit.ensures.value ∙ between_from_start c.args.text.now c.leading_digits-length.result in
    subst AreDigits (sym front) (has_digits c.args.text.now _ longest)

pub returns-then-is_letter-clause-stands : goal.returns-then-is_letter-clause-stands
returns-then-is_letter-clause-stands c =
    let text = c.args.text.now in
    let n = c.leading_word-length.result in
    let longest = rw c.as_bytes-bytes.ensures.value at c.leading_word-length.ensures in
    let opens = rw c.as_bytes-bytes.ensures.value at c.if-is_letter.ensures in
    let front = c.range.ensures.value ∙ between_from_start text n in
    let stands = rw front at c.name_or_word.ensures in
    subst (λ all. Stands (lexeme_of c.name_or_word.result) all (drop n text)) (take-append-drop n text)
    (stands (drop n text) (whole_front text n longest c.requires.some (sym opens)))

pub returns-in-Some-clause-stands : goal.returns-in-Some-clause-stands
returns-in-Some-clause-stands c =
    let text = c.args.text.now in
    let n = c.leading_digits-length.result in
    let longest = rw c.as_bytes-bytes.ensures.value at c.leading_digits-length.ensures in
    let opens = rw c.as_bytes-bytes.ensures.value at c.if-is_digit.ensures in
    let front = c.range-then-is_digit.ensures.value ∙ between_from_start text n in
    let says = rw front at c.in-Some.ensures in
    number_stands text n _ longest c.requires.some (sym opens) says.0 (passed_on _ c.in-Some.value says.0 says.1)

pub returns-in-None-clause-stands : goal.returns-in-None-clause-stands
returns-in-None-clause-stands c =
    let text = c.args.text.now in
    let n = c.leading_digits-length.result in
    let longest = rw c.as_bytes-bytes.ensures.value at c.leading_digits-length.ensures in
    let opens = rw c.as_bytes-bytes.ensures.value at c.if-is_digit.ensures in
    let front = c.range-then-is_digit.ensures.value ∙ between_from_start text n in
    let large = rw front at c.in-None.ensures in
    (drop_all _ text (search rules), inl (too_large text n longest c.requires.some (sym opens) large))
