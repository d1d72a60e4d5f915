use Rattle.test_rows.proofs.states.put_value.Goals as goal

pub bring_item-requires : goal.bring_item-requires
bring_item-requires c = c.in-Ok.ensures.legal _
