use Rattle.std.proofs.Common.{◌≡◌}
use Rattle.instances.proofs.instances.Instances.hand_out.Given as goal

-- nothing has changed
abbrev pub invariant-loop-count : goal.invariant-loop-count
invariant-loop-count l = l.self ≡ l.initial.self
