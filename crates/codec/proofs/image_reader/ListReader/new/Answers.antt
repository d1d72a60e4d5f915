use Rattle.std.proofs.Common.{◌≡◌, ◌∙◌, refl, None}
use Rattle.codec.specs.Reading.{list, rising}
use Rattle.codec.proofs.Unread.{read_whole}
use Rattle.codec.proofs.image_reader.ListReader.new.Goals as goal

pub returns-clause-read : goal.returns-clause-read
returns-clause-read g c =
    let cmp = g.T.Ranked.cmp in
    let reading = g.T.Element.reading c.args.most in
    let same : rising cmp reading None c.in_ok-left.left c.count.new.self.rest.now ≡ list cmp reading c.args.bytes.now = rw (← c.in_ok-left.ensures) refl in
    read_whole cmp reading c.in_ok-left.left None c.count.new.self.rest.now ∙ same
