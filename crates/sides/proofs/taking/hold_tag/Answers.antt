use Rattle.std.proofs.Common.{sym, subst, [], ◌∷◌, ◌∙◌}
use Rattle.std.specs.FinMap.{get}
use Rattle.terms.specs.Facts.{tag}
use Rattle.codec.specs.Image.{environment_tag}
use Rattle.instances.specs.Known.{tag_place}
use Rattle.sides.specs.Growth.{Grows}
use Rattle.sides.proofs.Said.{facts_said, tag_absent}
use Rattle.sides.proofs.Held.{held_grows, tag_grows, there_already}
use Rattle.sides.proofs.taking.hold_tag.Goals as goal

pub returns-clause-absent : goal.returns-clause-absent
returns-clause-absent c =
    let law = c.images_of_maps.ensures in
    let absent = tag_absent law.maps law.done law.rest c.args.holdings.now c.args.name.now in
    (λ is. absent.0 (c.in_ok-absent.ensures.absent.0 is), λ isnt. c.in_ok-absent.ensures.absent.1 (absent.1 isnt))

pub returns-clause-grown : goal.returns-clause-grown
returns-clause-grown c absent =
    let law = c.images_of_maps.ensures in
    subst (Grows (environment_tag (c.args.name.now, c.args.mark)) (tag c.args.name.now ∷ []) c.args.holdings.now) (sym (c.in_ok-absent.ensures.put absent))
    (tag_grows c.facts_are_told_apart.ensures.among law.maps law.done law.rest c.args.holdings.now c.args.name.now (c.in_ok-absent.ensures.absent.0 absent) c.args.mark)

pub returns-clause-kept : goal.returns-clause-kept
returns-clause-kept c there =
    let laws = c.facts_are_told_apart.ensures in
    let law = c.images_of_maps.ensures in
    let h = c.args.holdings.now in
    subst (Grows [] (tag c.args.name.now ∷ []) h) (sym (c.in_ok-absent.ensures.there there))
    (held_grows laws.among law.maps law.done law.rest h laws.one (tag c.args.name.now)
    (facts_said law.maps law.done law.rest h (tag c.args.name.now) ∙ there_already (get h.tags (tag_place c.args.name.now)) c.in_ok-absent.absent c.in_ok-absent.ensures.absent there))
