use Rattle.std.proofs.Common.{◌≡◌, drop}
use Rattle.instances.specs.Known.{least, room_for}
use Rattle.instances.proofs.instances.Instances.spare.Given as goal

-- the least of the room so far and of the rooms of the steps that are left is the room of the collection
abbrev pub invariant-loop-number : goal.invariant-loop-number
invariant-loop-number l = least l.fn.collection.0 l.room (drop l.number l.self.steps) ≡ room_for l.self l.fn.collection
