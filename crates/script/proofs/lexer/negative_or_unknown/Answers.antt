use Rattle.std.proofs.Common.{◌+◌, drop, sym, subst, ◌∙◌, arith}
use Rattle.std.proofs.lemmas.Slice.{between_from_start}
use Rattle.std.specs.Str.Parse.{IsNumeral, signed_digits_value, without_leading_sign}
use Rattle.std.proofs.lemmas.Str.{IsCharBoundary-from_ascii}
use Rattle.script.specs.Tokens.{Stands, number}
use Rattle.script.proofs.Fronts.{behind_first, negative_sound, negative_stands, negative_within}
use Rattle.script.proofs.lexer.negative_or_unknown.Goals as goal

pub overflow_add-digits : goal.overflow_add-digits
overflow_add-digits c =
    let longest = behind_first c.args.text.now _ (rw c.as_bytes-bytes.ensures.value at c.leading_digits-digits.ensures) in
    let length = c.as_bytes-bytes.ensures.len in
    omega (arith, negative_within c.args.text.now _ longest c.if-digits-gt0.true)

pub range-requires-clause-end_boundary : goal.range-requires-clause-end_boundary
range-requires-clause-end_boundary c =
    let longest = behind_first c.args.text.now _ (rw c.as_bytes-bytes.ensures.value at c.leading_digits-digits.ensures) in
    IsCharBoundary-from_ascii c.args.text.now _ c.requires.ascii (negative_within c.args.text.now _ longest c.if-digits-gt0.true)

pub returns-then-digits-gt0-clause-stands : goal.returns-then-digits-gt0-clause-stands
returns-then-digits-gt0-clause-stands c =
    let text = c.args.text.now in
    let n = c.leading_digits-digits.result in
    let longest = behind_first text n (rw c.as_bytes-bytes.ensures.value at c.leading_digits-digits.ensures) in
    let hyphen = rw c.as_bytes-bytes.ensures.value at c.if-bytes-eq45.true in
    let front = c.range.ensures.value ∙ between_from_start text (n + 1) in
    subst (λ bytes. Stands (number (signed_digits_value 10 bytes)) text (drop (n + 1) text)) (sym front) (negative_stands text n hyphen longest c.if-digits-gt0.true)

pub returns-then-digits-gt0-clause-sound : goal.returns-then-digits-gt0-clause-sound
returns-then-digits-gt0-clause-sound c =
    let text = c.args.text.now in
    let n = c.leading_digits-digits.result in
    let longest = behind_first text n (rw c.as_bytes-bytes.ensures.value at c.leading_digits-digits.ensures) in
    let hyphen = rw c.as_bytes-bytes.ensures.value at c.if-bytes-eq45.true in
    let front = c.range.ensures.value ∙ between_from_start text (n + 1) in
    subst (λ bytes. IsNumeral 10 (without_leading_sign bytes)) (sym front) (negative_sound text n hyphen longest c.if-digits-gt0.true)
