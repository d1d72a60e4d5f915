use Rattle.std.proofs.Common.{sym, ◌∙◌}
use Rattle.terms.specs.Facts.{done}
use Rattle.sides.proofs.Said.{facts_said}
use Rattle.sides.proofs.fitting.is_done.Goals as goal

pub returns : goal.returns
returns c =
    let law = c.images_of_maps.ensures in
    c.is_done.ensures ∙ sym (facts_said law.maps law.done law.rest c.args.holdings.now (done c.args.instance.now))
