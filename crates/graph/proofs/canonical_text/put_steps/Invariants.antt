use Rattle.std.proofs.Common.{◌≡◌, ◌++◌, drop}
use Rattle.std.specs.List.{flat_map}
use Rattle.graph.specs.Canonical.{step_text}
use Rattle.graph.proofs.canonical_text.put_steps.Given as goal

-- what is written, with what is still to come
abbrev pub invariant-loop-number : goal.invariant-loop-number
invariant-loop-number l = l.text.items ++ flat_map (step_text l.graph) (drop l.number l.graph.steps) ≡ l.fn.text.items ++ flat_map (step_text l.graph) l.graph.steps
