use Rattle.std.proofs.Common.{List, sym, ap, ◌∙◌}
use Rattle.terms.specs.declared.event.Event.TheVariants.{Done}
use Rattle.terms.specs.declared.put.Put.{Put}
use Rattle.sides.proofs.Working.{none_fits, fits_alone}
use Rattle.sides.proofs.taking.take.Goals as goal

pub returns-then-is_some-clause-fits : goal.returns-then-is_some-clause-fits
returns-then-is_some-clause-fits c =
    none_fits c.images_of_maps.ensures.rest c.args.graph.now c.args.holdings.now c.args.event.now c.fault.result c.fault.ensures c.is_some.result c.is_some.ensures
    c.facts_are_told_apart.ensures.one c.if-is_some.true

pub returns-in_ok-take_item-in-EnvItem-clause-fits : goal.returns-in_ok-take_item-in-EnvItem-clause-fits
returns-in_ok-take_item-in-EnvItem-clause-fits c =
    fits_alone c.images_of_maps.ensures.rest c.args.graph.now c.args.holdings.now c.args.event.now c.fault.result c.fault.ensures c.is_some.result c.is_some.ensures c.if-is_some.false
    c.in_ok-take_item-in-EnvItem.field-0 _ c.in-EnvItem.is c.in_ok-take_item-in-EnvItem.ensures.fits

pub returns-in_ok-take_tag-in-EnvTag-clause-fits : goal.returns-in_ok-take_tag-in-EnvTag-clause-fits
returns-in_ok-take_tag-in-EnvTag-clause-fits c =
    fits_alone c.images_of_maps.ensures.rest c.args.graph.now c.args.holdings.now c.args.event.now c.fault.result c.fault.ensures c.is_some.result c.is_some.ensures c.if-is_some.false
    c.in_ok-take_tag-in-EnvTag.field-0 _ c.in-EnvTag.is c.in_ok-take_tag-in-EnvTag.ensures.fits

pub returns-in_ok-take_end-in-Done-clause-fits : goal.returns-in_ok-take_end-in-Done-clause-fits
returns-in_ok-take_end-in-Done-clause-fits c =
    fits_alone c.images_of_maps.ensures.rest c.args.graph.now c.args.holdings.now c.args.event.now c.fault.result c.fault.ensures c.is_some.result c.is_some.ensures c.if-is_some.false
    c.in_ok-take_end-in-Done.field-0 (Done c.in-Done.instance c.as_slice.result.now)
    (c.in-Done.is ∙ ap (λ (puts : List Put). Done c.in-Done.instance puts) (sym c.as_slice.ensures)) c.in_ok-take_end-in-Done.ensures.fits

pub returns-in-Stopped-clause-fits : goal.returns-in-Stopped-clause-fits
returns-in-Stopped-clause-fits c =
    fits_alone c.images_of_maps.ensures.rest c.args.graph.now c.args.holdings.now c.args.event.now c.fault.result c.fault.ensures c.is_some.result c.is_some.ensures c.if-is_some.false c.take_fault.result _ c.in-Stopped.is c.take_fault.ensures.fits
