use Rattle.std.proofs.Common.{subst}
use Rattle.machine.specs.Machine.{Machine}
use Rattle.machine.specs.Room.{GivesRoom}
use Rattle.machine.proofs.Roomier.{gives_room}
use Rattle.machine.proofs.machine.Machine.make_room_for_ends.Goals as goal

pub returns-clause-grows : goal.returns-clause-grows
returns-clause-grows c =
    let g = c.self.inside.graph.value in
    subst (λ (m : Machine). GivesRoom m (record { graph = g; memory = c.make_room.new.self })) c.self.view_is (gives_room g c.self.inside.memory c.make_room.new.self c.make_room.ensures.grows)
