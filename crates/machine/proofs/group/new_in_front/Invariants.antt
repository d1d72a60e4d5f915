use Rattle.std.proofs.Common.{◌-◌, ◌<◌, ◌≤◌, take}
use Rattle.std.specs.Vec.{vec_capacity}
use Rattle.machine.specs.Group.{puts_of_all}
use Rattle.machine.specs.Together.{AreAllNew, IsOneNotNew}
use Rattle.machine.proofs.group.new_in_front.Given as goal

-- the first `new` are new, and the first `not_new` are not
abbrev pub invariant-loop-not_new : goal.invariant-loop-not_new
invariant-loop-not_new l =
    (l.new < l.not_new) × (l.not_new ≤ l.fn.most)
    × AreAllNew l.fn.items (puts_of_all (take l.new l.fn.ends))
    × IsOneNotNew l.fn.items (puts_of_all (take l.not_new l.fn.ends))
    × (vec_capacity l.fn.addresses ≤ vec_capacity l.addresses)

abbrev pub decreases-loop-not_new : goal.decreases-loop-not_new
decreases-loop-not_new l = l.not_new - l.new
