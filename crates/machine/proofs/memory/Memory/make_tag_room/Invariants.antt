use Rattle.std.proofs.Common.{ℕ, ◌<◌, ◌≤◌, get_or}
use Rattle.machine.specs.Room.{OnlyMakesRoom}
use Rattle.instances.specs.Known.{room_for}
use Rattle.machine.proofs.memory.Memory.make_tag_room.Given as goal

-- only room was added, and each collection so far has room for its number
abbrev pub invariant-loop-number : goal.invariant-loop-number
invariant-loop-number l = OnlyMakesRoom l.initial.self l.self × ((k : ℕ) → k < l.number → get_or l.counts k 0 ≤ room_for l.self.instances (record { 0 = k }))
