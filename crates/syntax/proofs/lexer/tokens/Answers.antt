use Rattle.std.proofs.Common.{◌≡◌, ap, ◌∙◌, arith, rules}
use Rattle.std.specs.List.{prefix_len}
use Rattle.syntax.specs.Tokens.{is_blank, spots_of}
use Rattle.syntax.proofs.Runs.{boundary}
use Rattle.syntax.proofs.Chain.{blanks_within, not_blank, finished, token_read, SoFar-pushed}
use Rattle.syntax.proofs.lexer.tokens.Goals.{then-len-capacity+in_ok-reserve-2, else-len-capacity}
use Rattle.syntax.proofs.lexer.tokens.Goals as goal

pub overflow_add-place : goal.overflow_add-place
overflow_add-place c =
    let blanks = c.leading_blanks-place.ensures ∙ ap (prefix_len is_blank) (c.as_bytes.ensures.value ∙ c.range_from.ensures.value) in
    omega (arith, blanks_within c.args.text.now c.loop-place.place _ blanks c.loop-place.invariant.within)

pub returns-then-place-text : goal.returns-then-place-text
returns-then-place-text c =
    let blanks = c.leading_blanks-place.ensures ∙ ap (prefix_len is_blank) (c.as_bytes.ensures.value ∙ c.range_from.ensures.value) in
    finished c.args.text.now c.loop-place.place _ _ blanks c.if-place-text.true c.loop-place.invariant.so_far

pub range_from-requires-in-loop-place : goal.range_from-requires-in-loop-place
range_from-requires-in-loop-place c = λ _.
    let blanks = c.leading_blanks-place.ensures ∙ ap (prefix_len is_blank) (c.as_bytes.ensures.value ∙ c.range_from.ensures.value) in
    boundary c.args.text.now _ c.requires (blanks_within c.args.text.now c.loop-place.place _ blanks c.loop-place.invariant.within)

pub first_token-length-requires-clause-not_blank : goal.first_token-length-requires-clause-not_blank
first_token-length-requires-clause-not_blank c =
    let text = c.args.text.now in
    let blanks = c.leading_blanks-place.ensures ∙ ap (prefix_len is_blank) (c.as_bytes.ensures.value ∙ c.range_from.ensures.value) in
    let within = blanks_within text c.loop-place.place _ blanks c.loop-place.invariant.within in
    not_blank text _ c.loop-place.place _ blanks c.range_from-in-loop-place.ensures.value (omega (arith, within))

pub loop-place-preserved : goal.loop-place-preserved
loop-place-preserved c =
    let text = c.args.text.now in
    let blanks = c.leading_blanks-place.ensures ∙ ap (prefix_len is_blank) (c.as_bytes.ensures.value ∙ c.range_from.ensures.value) in
    let token = c.first_token-length.ensures in
    let same : c.if-len-capacity.tokens.items ≡ c.loop-place.tokens.items = elim c.if-len-capacity.branch [ then-len-capacity+in_ok-reserve-2 w ↦ search rules | else-len-capacity w ↦ search rules ] in
    let pushed = rw same at c.push_reserved.ensures.items in
    let read = token_read text c.range_from-in-loop-place.result.now c.loop-place.place _ _ _ (spots_of c.loop-place.tokens.items) blanks c.range_from-in-loop-place.ensures.value token.stands token.within c.loop-place.invariant.so_far in
    record {
      within = omega arith;
      so_far = SoFar-pushed text _ c.loop-place.tokens.items _ _ pushed read;
    }
