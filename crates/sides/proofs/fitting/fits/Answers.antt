use Rattle.std.proofs.Common.{sym, ◌∙◌}
use Rattle.std.proofs.lemmas.Bool.{false≢true}
use Rattle.sides.proofs.FittingState.{all_fit, instances_are_fit, puts_are_fit}
use Rattle.sides.proofs.fitting.fits.Goals as goal

pub returns-then-instances_fit : goal.returns-then-instances_fit
returns-then-instances_fit c =
    let told = c.facts_are_told_apart.ensures.one in
    let law = c.images_of_maps.ensures in
    let instances = c.instances_fit.ensures.0 c.if-instances_fit.true in (
      λ holds. all_fit told law.maps law.done law.rest c.args.holdings.now c.args.graph.now instances (c.puts_fit.ensures.0 holds),
      λ state. c.puts_fit.ensures.1 (puts_are_fit told law.maps law.done law.rest c.args.holdings.now c.args.graph.now state),
    )

pub returns-else-instances_fit : goal.returns-else-instances_fit
returns-else-instances_fit c =
    let told = c.facts_are_told_apart.ensures.one in
    let law = c.images_of_maps.ensures in (
      λ holds. absurd (false≢true (sym c.if-instances_fit.false ∙ holds)),
      λ state. c.instances_fit.ensures.1 (instances_are_fit told law.maps law.done law.rest c.args.holdings.now c.args.graph.now state),
    )
