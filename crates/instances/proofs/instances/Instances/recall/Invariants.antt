use Rattle.std.proofs.Common.{◌≡◌}
use Rattle.instances.proofs.instances.Instances.recall.Given as goal

-- nothing has changed that is seen
abbrev pub invariant-loop-index : goal.invariant-loop-index
invariant-loop-index l = (l.self-inside.tags ≡ l.initial.self-inside.tags) × (l.self-inside.steps.items ≡ l.initial.self-inside.steps.items)
