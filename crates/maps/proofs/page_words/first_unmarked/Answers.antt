use Rattle.std.proofs.Common.{w64, ap, ◌==◌}
use Rattle.std.proofs.lemmas.Nat.Bits.{bit_at-trailing_zeros}
use Rattle.maps.proofs.page_words.first_unmarked.Goals as goal

pub returns : goal.returns
returns c = ap (λ bit. bit == 0) (bit_at-trailing_zeros w64 c.args.word c.requires c.ranges.word.fits).1
