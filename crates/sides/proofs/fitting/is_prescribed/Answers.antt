use Rattle.std.proofs.Common.{sym, ◌∙◌}
use Rattle.codec.specs.Image.{facts_in}
use Rattle.holdings.specs.Holdings.{image_of}
use Rattle.sides.proofs.Prescribers.{prescribed_by}
use Rattle.sides.proofs.fitting.is_prescribed.Goals as goal

pub returns-in-Some : goal.returns-in-Some
returns-in-Some c =
    let tag_is_there = prescribed_by c.args.graph.now (facts_in (image_of c.args.holdings.now)) c.args.instance.now c.in-Some.collection c.in-Some.ensures in
    (λ holds. tag_is_there.0 (sym c.has_tag.ensures ∙ holds), λ prescribed. c.has_tag.ensures ∙ tag_is_there.1 prescribed)
