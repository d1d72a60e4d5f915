use Rattle.std.proofs.Common.{arith, sym}
use Rattle.codec.specs.Spelling.{IsImage, image_bytes}
use Rattle.codec.specs.Reading.{image}
use Rattle.codec.proofs.ImageLaws.{image_agrees}
use Rattle.codec.proofs.WholeLaws.{reads_back, nothing_left}
use Rattle.codec.proofs.Encodable.{is_spelled, in_order}
use Rattle.codec.proofs.decode.decode_image.Goals as goal

pub returns-clause-spelled : goal.returns-clause-spelled
returns-clause-spelled c =
    let most = c.args.most in
    is_spelled (IsImage most) image_bytes (image most) (reads_back (IsImage most) image_bytes (image most) (image_agrees most c.requires)) c.args.bytes.now c.read_image.new.reader.rest.now c.in_ok-image.image
    (λ k. omega (arith, c.type_inv.bytes k)) c.in_ok-image.ensures (nothing_left tt tt c.read_image.new.reader.rest.now (sym c.in_ok-end.ensures)).1

pub returns-clause-encodable : goal.returns-clause-encodable
returns-clause-encodable c = in_order c.args.most c.in_ok-image.image (returns-clause-spelled c).0
