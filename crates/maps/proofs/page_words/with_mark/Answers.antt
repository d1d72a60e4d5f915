use Rattle.std.proofs.Common.{w64, ap, ◌==◌}
use Rattle.std.proofs.lemmas.Nat.Bits.{bit_at_clear_same, bit_at_clear_other}
use Rattle.maps.proofs.page_words.with_mark.Goals as goal

pub returns-clause-marked : goal.returns-clause-marked
returns-clause-marked c = ap (λ bit. bit == 0) (bit_at_clear_same w64 c.args.word c.args.place c.requires)

pub returns-clause-others : goal.returns-clause-others
returns-clause-others c = λ other within differs. ap (λ bit. bit == 0) (bit_at_clear_other w64 c.args.word c.args.place c.requires other within differs)
