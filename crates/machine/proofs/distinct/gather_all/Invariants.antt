use Rattle.std.proofs.Common.{◌≡◌, ◌≤◌, ◌++◌, drop}
use Rattle.std.specs.Vec.{vec_capacity}
use Rattle.graph.specs.Fits.{addresses}
use Rattle.machine.specs.Group.{puts_of_all}
use Rattle.machine.proofs.distinct.gather_all.Given as goal

abbrev pub invariant-loop-number : goal.invariant-loop-number
invariant-loop-number l =
    (l.addresses.items ++ addresses (puts_of_all (drop l.number l.fn.ends)) ≡ addresses (puts_of_all l.fn.ends))
    × (vec_capacity l.fn.addresses ≤ vec_capacity l.addresses)
