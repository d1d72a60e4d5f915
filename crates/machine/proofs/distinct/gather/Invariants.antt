use Rattle.std.proofs.Common.{◌≡◌, ◌≤◌, ◌+◌, ◌++◌, drop, length}
use Rattle.std.specs.Vec.{vec_capacity}
use Rattle.graph.specs.Fits.{addresses}
use Rattle.machine.proofs.distinct.gather.Given as goal

abbrev pub invariant-loop-put : goal.invariant-loop-put
invariant-loop-put l =
    (l.addresses.items ++ addresses (drop l.put-index l.puts) ≡ l.fn.addresses.items ++ addresses l.puts)
    × (length l.addresses.items ≤ length l.fn.addresses.items + l.put-index)
    × (vec_capacity l.addresses ≡ vec_capacity l.fn.addresses)
