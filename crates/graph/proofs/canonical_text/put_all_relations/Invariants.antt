use Rattle.std.proofs.Common.{◌≡◌, ◌++◌, drop}
use Rattle.std.specs.List.{flat_map}
use Rattle.graph.specs.Canonical.{step_relations}
use Rattle.graph.proofs.canonical_text.put_all_relations.Given as goal

-- what is written, with what is still to come
abbrev pub invariant-loop-number : goal.invariant-loop-number
invariant-loop-number l = l.text.items ++ flat_map (step_relations l.graph) (drop l.number l.graph.steps) ≡ l.fn.text.items ++ flat_map (step_relations l.graph) l.graph.steps
