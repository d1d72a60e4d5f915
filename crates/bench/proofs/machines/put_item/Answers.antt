use Rattle.std.proofs.Common.{pos}
use Rattle.terms.specs.declared.event.Event.TheVariants.{EnvItem}
use Rattle.bench.proofs.machines.put_item.Goals as goal

pub take_item-requires-clause-legal : goal.take_item-requires-clause-legal
take_item-requires-clause-legal c = c.make_room.ensures.grows.legal (EnvItem (record { collection = record { 0 = 0 }; key = c.new.result }) (pos 1)) (c.in_ok-may_put_item.ensures.legal (pos 1))

pub make_room-requires : goal.make_room-requires
make_room-requires c = ((c.in_ok-may_put_item.ensures.legal (pos 1)).event_is_legal.0.0, tt)
