use Rattle.std.proofs.Common.{take}
use Rattle.instances.specs.Known.{AllGrown, AllHaveRoom}
use Rattle.instances.proofs.instances.make_all_room.Given as goal

-- each step so far has room for `count` more instances
abbrev pub invariant-loop-number : goal.invariant-loop-number
invariant-loop-number l = AllGrown l.fn.collection.0 l.initial.steps.items l.steps.items × AllHaveRoom l.fn.collection.0 l.fn.count (take l.number l.steps.items)
