use Rattle.sides.proofs.Grown.{done_behind}
use Rattle.sides.proofs.Held.{end_grows}
use Rattle.sides.proofs.taking.take_end.Goals as goal

pub returns-clause-grown : goal.returns-clause-grown
returns-clause-grown c fits =
    let laws = c.facts_are_told_apart.ensures in
    let law = c.images_of_maps.ensures in
    let ended = c.in_ok-end.ensures in
    done_behind laws.among c.args.instance.now (c.in_ok-take_puts.ensures.grown c.if-not-branch.false)
    (end_grows laws.among law.maps law.done law.rest c.take_puts.new.holdings laws.one c.args.instance.now c.end.new.self c.in_ok-end.field-0 ended.absent ended.ended ended.there)
