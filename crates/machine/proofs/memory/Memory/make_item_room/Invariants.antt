use Rattle.std.proofs.Common.{ℕ, ◌<◌, ◌≤◌, get_or}
use Rattle.machine.specs.Room.{OnlyMakesRoom}
use Rattle.items.specs.Held.{room_for}
use Rattle.machine.proofs.memory.Memory.make_item_room.Given as goal

-- only room was added, and each collection so far has room for its number
abbrev pub invariant-loop-number : goal.invariant-loop-number
invariant-loop-number l = OnlyMakesRoom l.initial.self l.self × ((k : ℕ) → k < l.number → get_or l.counts k 0 ≤ room_for l.self.items (record { 0 = k }))
