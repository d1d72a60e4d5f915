use Rattle.std.proofs.Common.{◌-◌, ◌^◌, ◌∙◌, ap, arith}
use Rattle.std.proofs.lemmas.Nat.Bits.{ones_shr}
use Rattle.maps.proofs.page_words.without_marks.Goals as goal

pub returns : goal.returns
returns c = ones_shr 64 (64 - c.args.count) (omega arith) ∙ ap (λ n. 2 ^ n - 1) {x = 64 - (64 - c.args.count)} {y = c.args.count} (omega (arith, c.requires))
