use Rattle.terms.specs.declared.event.Event.TheVariants.{EnvItem}
use Rattle.test_rows.proofs.states.bring_item.Goals as goal

-- whether the put is legal does not depend on the value
pub take_item-requires-clause-legal : goal.take_item-requires-clause-legal
take_item-requires-clause-legal c =
    let legal = c.make_room.ensures.grows.legal (EnvItem c.args.address _) c.requires in
    record { working = legal.working; event_is_legal = legal.event_is_legal }
