use Rattle.std.proofs.Common.{◌≡◌, ◌-◌, ◌^◌, min, take, sum_by}
use Rattle.instances.proofs.Lengths.{its_length}
use Rattle.instances.proofs.instances.Instances.count.Given as goal

abbrev pub invariant-loop-number : goal.invariant-loop-number
invariant-loop-number l = l.count ≡ min (sum_by its_length (take l.number l.self.steps)) (2 ^ 64 - 1)
