use Rattle.std.proofs.Common.{arith}
use Rattle.codec.specs.Spelling.{IsImage, image_bytes}
use Rattle.codec.specs.Reading.{image}
use Rattle.codec.proofs.ImageLaws.{image_agrees}
use Rattle.codec.proofs.WholeLaws.{reads_back}
use Rattle.codec.proofs.Encodable.{are_bytes, in_order}
use Rattle.codec.proofs.law.image_is_spelled.Goals as goal

pub returns : goal.returns
returns c one read =
    let most = c.args.most in
    let spells = (reads_back (IsImage most) image_bytes (image most) (image_agrees most c.requires)).only c.args.bytes.now one (are_bytes c.args.bytes.now (λ k. omega (arith, c.type_inv.bytes k))) read in
    (spells, in_order most one spells.0)
