use Rattle.machine.proofs.Roomier.{made_for_items}
use Rattle.machine.proofs.memory.Memory.make_room_for_items.Goals as goal

pub returns-clause-grows : goal.returns-clause-grows
returns-clause-grows c = made_for_items c.args.self.now c.make_room.new.self c.args.collection c.make_room.ensures.grows c.make_room.ensures.waiting
