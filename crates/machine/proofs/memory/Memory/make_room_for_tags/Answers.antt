use Rattle.machine.proofs.Roomier.{made_for_tags}
use Rattle.machine.proofs.memory.Memory.make_room_for_tags.Goals as goal

pub returns-clause-grows : goal.returns-clause-grows
returns-clause-grows c = made_for_tags c.args.self.now c.make_room.new.self c.args.collection c.make_room.ensures.grows
