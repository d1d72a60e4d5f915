use Rattle.std.proofs.Common.{sym, ◌∙◌}
use Rattle.terms.specs.Facts.{tag}
use Rattle.sides.proofs.Said.{facts_said}
use Rattle.sides.proofs.fitting.has_tag.Goals as goal

pub returns : goal.returns
returns c =
    let law = c.images_of_maps.ensures in
    c.has_tag.ensures ∙ sym (facts_said law.maps law.done law.rest c.args.holdings.now (tag c.args.name.now))
