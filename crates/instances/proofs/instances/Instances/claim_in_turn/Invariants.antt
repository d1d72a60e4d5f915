use Rattle.std.proofs.Common.{◌≡◌}
use Rattle.instances.proofs.instances.Instances.claim_in_turn.Given as goal

-- nothing has changed
abbrev pub invariant-loop-number : goal.invariant-loop-number
invariant-loop-number l = l.self-inside ≡ l.initial.self-inside
