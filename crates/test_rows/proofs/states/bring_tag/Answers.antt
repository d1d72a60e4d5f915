use Rattle.terms.specs.declared.event.Event.TheVariants.{EnvTag}
use Rattle.test_rows.proofs.states.bring_tag.Goals as goal

pub take_tag-requires-clause-legal : goal.take_tag-requires-clause-legal
take_tag-requires-clause-legal c =
    c.make_room.ensures.grows.legal (EnvTag c.args.tag) c.requires
